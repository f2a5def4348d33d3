-- Calls and answers as values, as the definitions have them.
use Rattle.std.specs.Prelude.{vec_items}
use Rattle.runs.specs.Calls as calls
use Rattle.search.specs.Replies.{grant_answer, offer_answer, held_answer}
use Rattle.search.specs.declared.calls.Answer as answer
use Rattle.search.specs.declared.calls.Answer.TheVariants as answers
use Rattle.search.specs.declared.calls.Call as call
use Rattle.search.specs.declared.calls.Call.TheVariants as asked

abbrev pub call_of : call.Call → calls.Call
call_of (asked.Grant k) = calls.Grant k
call_of (asked.Offer list) = calls.Offer (vec_items list)
call_of (asked.Held buffer) = calls.AskHeld (vec_items buffer)
call_of asked.Ceiling = calls.AskCeiling

abbrev pub answer_of : answer.Answer → calls.Answer
answer_of (answers.Grant r) = grant_answer r
answer_of (answers.Offer r) = offer_answer r
answer_of (answers.Held r buffer) = held_answer r (vec_items buffer)
answer_of (answers.Ceiling c) = calls.Ceiling c
