use Rattle.std.proofs.Common.{length, drop, vec_items, ap, ◌∙◌}
use Rattle.std.specs.List.{each_same}
use Rattle.std.proofs.lemmas.List.{take_at}
use Rattle.runs.specs.Calls.{written}
use Rattle.search.specs.Replies.{held_answer}
use Rattle.search.specs.Searching.{state_of}
use Rattle.search.proofs.replay.held_in.Goals as goal

-- the copy holds what the buffer held, and then what was written
pub returns : goal.returns
returns g c =
    let copy = c.in_ok-copy.copy in
    let last = c.held-held.new.buffer in
    let same = c.deref_mut.ensures.value ∙ each_same (vec_items c.args.buffer.now) (vec_items copy) c.in_ok-copy.ensures.cases.0 in
    ap (held_answer c.held-held.result) (take_at last (drop (length last) copy.items) copy.len (c.held-held.auto.buffer ∙ c.deref_mut.ensures.len))
    ∙ c.held-held.ensures
    ∙ ap (written (state_of c.args.search.now).held) same
