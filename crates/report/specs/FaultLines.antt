-- The line of a fault. Assumes nothing.
use Rattle.std.specs.Prelude.{ℕ, List, ◌++◌, codes, decimal}
use Rattle.rules.specs.declared.refusals.Fault.{Fault}

-- A fault is written into a buffer of at least so many bytes, and its line is never longer.
abbrev pub fault_buffer : ℕ
fault_buffer = 64

-- The line of a fault: a word before each number, the numbers in decimal, and a newline.
abbrev pub fault_line : Fault → List ℕ
fault_line f =
    codes "REFUSED " ++ decimal f.number ++
    codes " LAYER " ++ decimal f.layer ++
    codes " AT " ++ decimal f.byte ++
    codes " PLACE " ++ decimal f.place ++
    codes " VERSION " ++ decimal f.version ++
    codes " ROW " ++ decimal f.row ++
    codes "\n"
