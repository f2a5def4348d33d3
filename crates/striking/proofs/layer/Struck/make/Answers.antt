use Rattle.candidates.specs.Members.{members}
use Rattle.striking.proofs.Changes.{strike-changes, restore-changes}
use Rattle.striking.proofs.layer.Struck.make.Goals as goal

pub returns-in-Strike-clause-after : goal.returns-in-Strike-clause-after
returns-in-Strike-clause-after g c = λ v.
    simp c.in-Strike.is (strike-changes (λ s. members s.struck) c.args.self.now c.strike.new.self (g.S.Sheet.meaning c.args.self.now.sheet).size c.in-Strike.v c.strike.result c.strike.ensures.value c.strike.ensures.after v)

pub returns-in-Restore-clause-after : goal.returns-in-Restore-clause-after
returns-in-Restore-clause-after g c = λ v.
    simp c.in-Restore.is (restore-changes (λ s. members s.struck) c.args.self.now c.restore.new.self (g.S.Sheet.meaning c.args.self.now.sheet).size c.in-Restore.v c.restore.result c.restore.ensures.value c.restore.ensures.after v)
