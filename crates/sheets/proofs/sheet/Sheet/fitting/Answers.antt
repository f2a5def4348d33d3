use Rattle.std.proofs.Common.{◌≡◌, ℕ, ◌+◌, ◌<◌, Bool, true, false, ◌&&◌, ◌||◌, eqb, ltb, sym, ap, ◌∙◌, arith}
use Rattle.std.proofs.lemmas.Bool.{eqb-true}
use Rattle.std.proofs.lemmas.Bool.Decides.{nat_tests}
use Rattle.candidates.specs.Members.{has}
use Rattle.sheets.proofs.sheet.Sheet.fitting.Goals as goal
use Rattle.sheets.proofs.sheet.Sheet.fitting.Goals.{then-fits, else-fits}

marked : (f : ℕ → Bool) (u k : ℕ) (old new : Bool) → u < 256 → old ≡ (ltb k u && f k) → new ≡ (old || (eqb k u && ltb k 256)) → f u ≡ true → new ≡ (ltb k (u + 1) && f k)
marked f u k old new few before now yes' = let same : eqb k u ≡ true → f k ≡ f u = λ e. ap f (eqb-true k u e) in grind (arith, nat_tests)

passed : (f : ℕ → Bool) (u k : ℕ) (old : Bool) → old ≡ (ltb k u && f k) → f u ≡ false → old ≡ (ltb k (u + 1) && f k)
passed f u k old before no' = let same : eqb k u ≡ true → f k ≡ f u = λ e. ap f (eqb-true k u e) in grind (arith, nat_tests)

pub loop-u-preserved : goal.loop-u-preserved
loop-u-preserved g c = λ k.
    let m = g.Self.Sheet.meaning c.args.self.now in
    let few : c.loop-u.u < 256 = omega (arith, (g.Self.Sheet.lawful c.args.self.now).most) in
    elim c.if-fits.branch [
      | then-fits w ↦ ap (λ s. has s k) w.set-is ∙ marked (m.fit c.args.v) c.loop-u.u k _ _ few (c.loop-u.invariant k) (w.with-set.ensures.marks k) (sym w.if-fits.ensures)
      | else-fits w ↦ ap (λ s. has s k) w.set-is ∙ passed (m.fit c.args.v) c.loop-u.u k _ (c.loop-u.invariant k) (sym w.if-fits.ensures)
    ]
