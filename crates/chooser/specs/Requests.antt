-- The calls in memory as calls of the rules. Assumes nothing.
use Rattle.std.specs.Prelude.{Bool, true, false, Some, None, Option}
use Rattle.std.specs.Option.{option_map}
use Rattle.rules.specs.declared.records.Request.{Request}
use Rattle.rules.specs.Calls as calls
use Rattle.rules.specs.Records.{asked}
use Rattle.chooser.specs.declared.requests.Call.{Call}
use Rattle.chooser.specs.declared.requests.Call.TheVariants.{Change, Clear, Search, Run, Close}

-- The call of the rules.
abbrev pub call_of : Call → calls.Call
call_of (Change row limit) = calls.change row limit
call_of Clear = calls.clear
call_of Search = calls.begin_search
call_of (Run budget) = calls.run budget
call_of Close = calls.close

-- The call of the rules that was found, if one was.
abbrev pub call_asked : Option Call → Option calls.Call
call_asked o = option_map call_of o

-- Whether a search is running after a call, whatever it is answered: a search begins one, a close ends it.
abbrev pub turned : Bool → calls.Call → Bool
turned running (calls.change row limit) = running
turned running calls.clear = running
turned running calls.begin_search = true
turned running (calls.run budget) = running
turned running calls.close = false

-- Whether a search is running after a request, whatever it is answered: one that is for no call turns nothing.
abbrev pub turned_by : Bool → Request → Bool
turned_by running r = elim (asked r) [ Some c ↦ turned running c | None ↦ running ]
