-- The laws of a sheet hold of all evidence, and two candidates earn at most 51.
use Rattle.std.specs.Prelude.{◌≡◌, ℕ, ◌≤◌, Bool, false, cond, not, ◌&&◌, List, ◌==◌, nat_lt, refl}
use Rattle.std.proofs.Common.{arith}
use Rattle.std.proofs.lemmas.Bool.{and_left, and_right, eq-eqb, not_from_true, le-ltb, cond-false, cond_both}
use Rattle.std.proofs.lemmas.Bool.Decides.{nat_tests}
use Rattle.std.proofs.Math.Bool.{or_comm}
use Rattle.candidates.proofs.Sets.{and_comm}
use Rattle.sheets.specs.Meaning.{Lawful}
use Rattle.evidence.specs.declared.records.Meter.{Meter}
use Rattle.evidence.specs.declared.records.Flat.{Flat}
use Rattle.evidence.specs.declared.records.Candidate.{Candidate}
use Rattle.evidence.specs.Evidence.{meter_at, flat_at, candidate_at, apart, wiring, rises, order, earned, evidence_fit, evidence_of}

eqb-both : (a b : ℕ) → (a == b) ≡ (b == a)
eqb-both a b = grind (arith, nat_tests)

wiring-both : (a b : Meter) (f g : Flat) → wiring a b f g ≡ wiring b a g f
wiring-both a b f g = rw (eqb-both a.collector b.collector, eqb-both f.riser g.riser)

order-both : (a b : Meter) (f g : Flat) → order a b f g ≡ order b a g f
order-both a b f g =
    rw (or_comm (nat_lt a.serial b.serial && nat_lt f.floor g.floor) (nat_lt b.serial a.serial && nat_lt g.floor f.floor), eqb-both f.floor g.floor)

apart-both : (a b : Candidate) → apart a b ≡ apart b a
apart-both a b = rw (eqb-both a.meter b.meter, eqb-both a.flat b.flat)

apart-itself : (a : Candidate) → apart a a ≡ false
apart-itself a =
    and_left (not (a.meter == a.meter)) (not (a.flat == a.flat)) (not_from_true (a.meter == a.meter) (eq-eqb a.meter a.meter refl))

wiring-most : (x y : Bool) → cond x (cond y 40 0) (cond y 0 15) ≤ 40
wiring-most x y = grind arith

order-most : (x y : Bool) → cond x 11 (cond y 4 0) ≤ 11
order-most x y = grind arith

module _ (ms : List Meter) (fs : List Flat) (a b : Candidate) where
  earned-both : earned ms fs a b ≡ earned ms fs b a
  earned-both =
      let m = meter_at ms a.meter in
      let n = meter_at ms b.meter in
      let f = flat_at fs a.flat in
      let g = flat_at fs b.flat in
      rw (wiring-both m n f g, order-both m n f g)

  earned-most : earned ms fs a b ≤ 51
  earned-most =
      let m = meter_at ms a.meter in
      let n = meter_at ms b.meter in
      let f = flat_at fs a.flat in
      let g = flat_at fs b.flat in
      omega (arith, wiring-most (m.collector == n.collector) (f.riser == g.riser), order-most (rises m n f g) (f.floor == g.floor))

module _ (n : ℕ) (cs : List Candidate) where
  fit-both : (u v : ℕ) → evidence_fit n cs u v ≡ evidence_fit n cs v u
  fit-both u v = rw (and_comm (nat_lt u n) (nat_lt v n), apart-both (candidate_at cs u) (candidate_at cs v))

  not_itself : (u : ℕ) → evidence_fit n cs u u ≡ false
  not_itself u = and_right (nat_lt u n && nat_lt u n) (apart (candidate_at cs u) (candidate_at cs u)) (apart-itself (candidate_at cs u))

  outside : (u v : ℕ) → n ≤ u → evidence_fit n cs u v ≡ false
  outside u v past = and_left (nat_lt u n && nat_lt v n) (apart (candidate_at cs u) (candidate_at cs v)) (and_left (nat_lt u n) (nat_lt v n) (le-ltb u n past))

module _ (n : ℕ) (ms : List Meter) (fs : List Flat) (cs : List Candidate) where
  -- 40 and 11 are the most of each
  pub points-most : (u v : ℕ) → (evidence_of n ms fs cs).points u v ≤ 51
  points-most u v =
      let a = candidate_at cs u in
      let b = candidate_at cs v in
      cond_both (evidence_fit n cs u v) (earned ms fs a b) 0 (λ p. p ≤ 51) (λ _. earned-most ms fs a b) (λ _. omega arith)

  pub evidence-laws : 1 ≤ n → n ≤ 256 → Lawful (evidence_of n ms fs cs)
  evidence-laws some most = record {
    least = some;
    most = most;
    fit-both = fit-both n cs;
    points-both = λ u v. λ i. cond (fit-both n cs u v i) (earned-both ms fs (candidate_at cs u) (candidate_at cs v) i) 0;
    not_itself = not_itself n cs;
    no-points = λ u v. cond-false (evidence_fit n cs u v) (earned ms fs (candidate_at cs u) (candidate_at cs v)) 0;
    outside = outside n cs;
    highest = λ u v. omega (arith, points-most u v);
  }
