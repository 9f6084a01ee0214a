-- What there is space for on the page of a report. Assumes nothing.
use Rattle.std.specs.Prelude.{ℕ, List, take}
use Rattle.report.specs.Reports.{report_buffer}

-- The part of a text for which there is space.
unfoldable pub fitting : List ℕ → List ℕ
fitting text = take report_buffer text
