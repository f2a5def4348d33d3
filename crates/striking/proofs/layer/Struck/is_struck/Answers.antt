use Rattle.std.proofs.Common.{sym, ◌∙◌}
use Rattle.candidates.proofs.Marks.{is_in-members}
use Rattle.striking.proofs.layer.Struck.is_struck.Goals as goal

pub returns : goal.returns
returns g c = c.contains.ensures ∙ sym (is_in-members c.args.self.now.struck c.args.v)
