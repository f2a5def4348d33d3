use Rattle.std.proofs.Common.{length, sym, refl, ap, ◌∙◌, arith, rules}
use Rattle.candidates.proofs.Walk.{remaining-none, remaining-on, remaining-taken}
use Rattle.candidates.proofs.cursor.steps.MembersIterator.next.Goals as goal
use Rattle.std.proofs.iter.Next.{firm}

pub returns-then-self-eq3 : goal.returns-then-self-eq3
returns-then-self-eq3 c = let none = remaining-none c.loop-self.self c.loop-self.invariant.1 c.loop-self-test.true c.if-self-eq3.true in record {
  steps = (sym c.loop-self.invariant.0 ∙ none, none);
  goes = firm (tt) (λ h. search rules);
}

pub loop-self-preserved : goal.loop-self-preserved
loop-self-preserved c = (remaining-on c.loop-self.self _ c.loop-self.invariant.1 c.loop-self-test.true refl refl refl ∙ c.loop-self.invariant.0, c.loop-self.invariant.1, omega arith)

pub returns : goal.returns
returns c =
    let taken = sym c.loop-self.invariant.0 ∙ remaining-taken c.loop-self.self _ c.loop-self.invariant.1 c.loop-self.invariant.2 c.loop-self-test.false refl refl refl in
    record { steps = taken; goes = firm ((tt, tt, omega (arith, ap length taken))) (λ h. search rules) }
