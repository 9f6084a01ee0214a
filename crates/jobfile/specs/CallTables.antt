-- The calls in a table. Assumes nothing.
use Rattle.std.specs.Prelude.{List, length, Result, nat_lt}
use Rattle.rules.specs.declared.records.Request.{Request}
use Rattle.rules.specs.declared.refusals.Refusal.{Refusal}
use Rattle.rules.specs.declared.refusals.Refusal.TheVariants.{NoCall}
use Rattle.rules.specs.Refusals.{done_if}
use Rattle.jobfile.specs.Bounds.{most_calls}
use Rattle.jobfile.specs.declared.calls.Calls.{Calls}

-- The calls of a table, in their order.
abbrev pub calls_of : Calls → List Request
calls_of c = c.requests.items

-- Behind these calls there is room for one more, or it is refused.
abbrev pub room_for_call : List Request → Result (Unit {0}) Refusal
room_for_call cs = done_if (nat_lt (length cs) most_calls) NoCall
