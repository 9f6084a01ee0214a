-- What a job keeps over a call: its setting, and that it has come about by calls. Assumes nothing.
use Rattle.std.proofs.Common.{◌≡◌, Bool, List, [], Ok, Err, Result, sym, ap, ◌∙◌, subst}
use Rattle.std.proofs.Math.Logic.{∥∥₁_map}
use Rattle.rules.specs.declared.refusals.Fault.{Fault}
use Rattle.rules.specs.declared.sheets.Sheet.{Sheet}
use Rattle.rules.specs.Catalogues.{Meaning, SoundMeaning}
use Rattle.rules.specs.Openings.{opening}
use Rattle.rules.specs.Grounds.{Setting}
use Rattle.rules.specs.Calls.{Call, Job, reply}
use Rattle.rules.specs.Histories.{Entry}
use Rattle.rules.specs.Settings.{setting}
use Rattle.rules.specs.KeptJobs.{CameBy, KeptJob, faultless, faulty, job_by, opened_with}
use Rattle.rules.proofs.Comings.{came_on}
use Rattle.rules.proofs.Works.{record_law}
use Rattle.chooser.specs.Models.{job_of, kept, setting_in}
use Rattle.search.specs.States.{chosen_from}
use Rattle.chooser.specs.declared.opened.Opened.{Opened}

-- a job as it is opened has come about by no call
pub came_first : (m : Meaning) → SoundMeaning m → (s : Sheet) (k : KeptJob) → k ≡ opened_with s (opening m s) → ∥ ((es : List Entry) × CameBy m s es k) ∥₁
came_first m w s k e = ∣ ([], subst (CameBy m s []) (sym e) (record_law m w s).opens) ∣₁

module _ (m : Meaning) (s : Sheet) where
  -- a job has come about by some calls
  abbrev pub Came : KeptJob → Type 0
  Came k = ∥ ((es : List Entry) × CameBy m s es k) ∥₁

  -- a job in tables of this setting, and how it came about
  abbrev pub Sound : Setting → KeptJob → Type 0
  Sound S k = (S ≡ setting m s) × Came k

  pub came_after : (c : Call) (before after : KeptJob) → after ≡ job_by (setting m s) before c → Came before → Came after
  came_after c before after e came =
      ∥∥₁_map came (λ h. let on = came_on m s h.0 before c h.1 in (on.0, subst (CameBy m s on.0) (sym e) on.1))

  -- a call that is done in the tables keeps both
  pub goes_on : (c : Call) (j k : Job) (now later : Setting) → later ≡ now → k ≡ (reply now j c).job → Sound now (faultless j) → Sound later (faultless k)
  goes_on c j k now later same done h =
      (same ∙ h.0, came_after c (faultless j) (faultless k) (ap faultless (done ∙ ap (λ S. (reply S j c).job) h.0)) h.1)

  -- what a job keeps, without a fault and with one
  pub in_opened : (running : Bool) (o : Result Opened Fault) (x : Opened) → o ≡ Ok x → Sound (setting_in (setting m s) o) (kept running o) → Sound (chosen_from x.search) (faultless (job_of running x))
  in_opened running o x e h = subst (λ o. Sound (setting_in (setting m s) o) (kept running o)) e h

  pub in_faulty : (running : Bool) (o : Result Opened Fault) (f : Fault) → o ≡ Err f → Came (kept running o) → Came (faulty f)
  in_faulty running o f e h = subst (λ o. Came (kept running o)) e h
