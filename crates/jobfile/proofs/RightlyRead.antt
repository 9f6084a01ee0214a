-- What is promised of reading a file. Assumes nothing.
use Rattle.std.proofs.Common.{◌≡◌, ℕ, ◌+◌, ◌≤◌, List, length, IfOk, Ok, Err, Result, sym, ap, ◌∙◌, arith}
use Rattle.rules.specs.declared.refusals.Fault.{Fault}
use Rattle.rules.specs.Bounds.{most_places}
use Rattle.rules.specs.Catalogues.{SameAnswers}
use Rattle.jobfile.specs.declared.job.Job.{Job}
use Rattle.jobfile.specs.Opened.{stated_meaning}
use Rattle.jobfile.specs.Reading.{read}
use Rattle.jobfile.specs.Jobs.{RightlyRead, job_meaning, says, stated_by}
use Rattle.jobfile.specs.Sound.{Tables}
use Rattle.jobfile.proofs.Codec.{Bytes}
use Rattle.jobfile.proofs.LadderReads.{length_ladders}
use Rattle.jobfile.proofs.Listings.{length_listed}
use Rattle.jobfile.proofs.ReadLaw.{read_law}
use Rattle.jobfile.proofs.MetRefusals.{refused_law}
use Rattle.jobfile.proofs.SameAnswers.{meaning_read}

module _ (file : List ℕ) (small : Bytes file) where
  catalogue_read : (answer : Result Job Fault) → says file answer ≡ read file → IfOk answer (Tables file) → IfOk answer (λ j. SameAnswers (job_meaning file j) (stated_meaning (stated_by file j)))
  catalogue_read (Err f) is tables = tt
  catalogue_read (Ok j) is tables =
      let valid = ((read_law file small (stated_by file j)).0 (sym is)).0 in
      let few : length j.listing.places.items + length j.ladder.places.items ≤ most_places = omega (arith, valid.place_count, valid.few_places, length_listed file j.listing, length_ladders j.ladder) in
      meaning_read file j tables.same_rows few

  refused_says : (answer : Result Job Fault) (f : Fault) → says file answer ≡ Err f → answer ≡ Err f
  refused_says (Ok j) f e = absurd (cc)
  refused_says (Err g) f e = let same : g ≡ f = cc in ap Err same

  pub rightly_read : (answer : Result Job Fault) → says file answer ≡ read file → IfOk answer (Tables file) → RightlyRead file answer
  rightly_read answer is tables =
      record {
        accepted = λ j. (λ e. (read_law file small j).0 (sym is ∙ e), λ h. is ∙ (read_law file small j).1 h);
        refused = λ f. (λ e. (refused_law file small f).0 (sym is ∙ ap (says file) e), λ h. refused_says answer f (is ∙ (refused_law file small f).1 h));
        catalogue = catalogue_read answer is tables;
        tables = tables;
      }
