-- A text that is written into a lent buffer. Assumes nothing.
use Rattle.std.specs.Prelude.{ℕ, if◌then◌else◌, List, ◌++◌, length, drop, Ok, Result, nat_le}
use Rattle.rules.specs.declared.refusals.Fault.{Fault}
use Rattle.rules.specs.declared.refusals.Refusal.TheVariants.{BufferTooShort}
use Rattle.rules.specs.Refusals.{fault, where_holds}

module _ (wanted : ℕ) (text buffer : List ℕ) where
  -- What is answered where the text is to be written into a buffer of at least so many bytes: that it is too short, or the length of the text.
  abbrev pub write_answer : Result ℕ Fault
  write_answer = where_holds (nat_le wanted (length buffer)) (fault BufferTooShort) (Ok (length text))

  -- What the buffer holds then: the text at its front, with the bytes after it as before; or, where it is too short, all as before.
  abbrev pub buffer_after : List ℕ
  buffer_after = if nat_le wanted (length buffer) then text ++ drop (length text) buffer else buffer
