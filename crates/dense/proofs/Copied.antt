-- Right rows and right points make a sheet that answers alike.
use Rattle.std.proofs.Common.{◌≡◌, ℕ, ◌+◌, ◌*◌, ◌/◌, ◌%◌, ◌<◌, ◌≤◌, false, cond, ◌&&◌, ltb, List, get_or, sym, ap, ◌∙◌, ⊎_elim, arith}
use Rattle.std.proofs.lemmas.Bool.{and_left, and_right, cases_lt, cond-true, cond-false, le-ltb, lt-ltb}
use Rattle.candidates.specs.declared.set.CandidateSet.{CandidateSet}
use Rattle.candidates.specs.Members.{has}
use Rattle.sheets.specs.Meaning.{Meaning, Lawful}
use Rattle.dense.specs.Dense.{row, meaning_by}

module _ (m : Meaning) (law : Lawful m) where
  -- numbers from 256 on are no candidates
  far : (u v : ℕ) → 256 ≤ u → m.fit u v ≡ false
  far u v past = law.outside u v (omega (arith, law.most))

  module _ (rows : List CandidateSet) (right : (u : ℕ) → u < 256 → (k : ℕ) → has (row rows u) k ≡ m.fit u k) where
    fit_same : (u v : ℕ) → (ltb u 256 && has (row rows u) v) ≡ m.fit u v
    fit_same u v =
        ⊎_elim
        (λ less. ap (λ b. b && has (row rows u) v) (lt-ltb u 256 less) ∙ right u less v)
        (λ past. and_left (ltb u 256) (has (row rows u) v) (le-ltb u 256 past) ∙ sym (far u v past))
        (cases_lt u 256)

  module _ (points : List ℕ) (right : (k : ℕ) → k < 65536 → get_or points k 0 ≡ m.points (k / 256) (k % 256)) where
    inside : (u v : ℕ) → u < 256 → v < 256 → get_or points (256 * u + v) 0 ≡ m.points u v
    inside u v less lower =
        let high : (256 * u + v) / 256 ≡ u = omega arith in
        let low : (256 * u + v) % 256 ≡ v = omega arith in
        right (256 * u + v) (omega arith) ∙ λ i. m.points (high i) (low i)

    none : (u v : ℕ) → (ltb u 256 && ltb v 256) ≡ false → m.fit u v ≡ false → cond (ltb u 256 && ltb v 256) (get_or points (256 * u + v) 0) 0 ≡ m.points u v
    none u v out apart =
        cond-false (ltb u 256 && ltb v 256) (get_or points (256 * u + v) 0) 0 out ∙ sym (law.no-points u v apart)

    points-same : (u v : ℕ) → cond (ltb u 256 && ltb v 256) (get_or points (256 * u + v) 0) 0 ≡ m.points u v
    points-same u v =
        ⊎_elim
        (λ less. ⊎_elim
        (λ lower. cond-true (ltb u 256 && ltb v 256) (get_or points (256 * u + v) 0) 0 (ap (λ b. b && ltb v 256) (lt-ltb u 256 less) ∙ lt-ltb v 256 lower) ∙ inside u v less lower)
        (λ past. none u v (and_right (ltb u 256) (ltb v 256) (le-ltb v 256 past)) (law.fit-both u v ∙ far v u past))
        (cases_lt v 256))
        (λ past. none u v (and_left (ltb u 256) (ltb v 256) (le-ltb u 256 past)) (far u v past))
        (cases_lt u 256)

  pub copied : (rows : List CandidateSet) (points : List ℕ) → ((u : ℕ) → u < 256 → (k : ℕ) → has (row rows u) k ≡ m.fit u k) → ((k : ℕ) → k < 65536 → get_or points k 0 ≡ m.points (k / 256) (k % 256)) → meaning_by m.size rows points ≡ m
  copied rows points fits earns =
      λ i. record { size = m.size; fit = λ u v. fit_same rows fits u v i; points = λ u v. points-same points earns u v i }
