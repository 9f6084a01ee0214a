-- Call records carried out one after the other, with their lines. Assumes nothing.
use Rattle.std.proofs.Common.{◌≡◌, ℕ, suc, ◌+◌, ◌<◌, ◌≤◌, List, ◌++◌, drop, get_or, length, set, add-one, refl, sym, subst, arith}
use Rattle.std.proofs.lemmas.List.{drop-set-lt, drop_all, drop_more}
use Rattle.rules.specs.declared.records.CallRecord.{CallRecord}
use Rattle.rules.specs.declared.sheets.Sheet.{Sheet}
use Rattle.rules.specs.Catalogues.{Meaning}
use Rattle.rules.specs.Grounds.{Setting}
use Rattle.rules.specs.KeptJobs.{KeptJob}
use Rattle.rules.specs.Records.{all_answered, answer_to, closed_job, job_after}
use Rattle.rules.specs.Settings.{setting}
use Rattle.chooser.proofs.Plays.{Underway, none_yet, one_more, all_done}
use Rattle.report.specs.declared.page.Page.{Page}
use Rattle.report.specs.Reports.{call_line, calls_text, closing_text}
use Rattle.report.specs.Writing.{Puts, Recorded}
use Rattle.report.proofs.Putting.{both_put}

pub recorded_same : {m' m : Meaning} {s' s : Sheet} {j : KeptJob} {k : ℕ} {before after : CallRecord} {i : KeptJob} {p q : Page} → m' ≡ m → s' ≡ s → Recorded m' s' j k before after i p q → Recorded m s j k before after i p q
recorded_same {m'} {m} {s'} {s} {j} {k} {before} {after} {i} {p} {q} d e h =
    subst (λ m. Recorded m s j k before after i p q) d (subst (λ s. Recorded m' s j k before after i p q) e h)

-- so many of the records that there were at first, on the first job and page, are carried out, and with the lines of the others the text is the whole
pub record Along (m : Meaning) (s : Sheet) (first : KeptJob) (rs : List CallRecord) (p : Page) (j : KeptJob) (i : ℕ) (now : List CallRecord) (q : Page) : Type 0 where
  pub underway : Underway (setting m s) first rs i now j
  pub text : (r : Page) → Puts q (calls_text m s j (suc i) (drop i now)) r → Puts p (calls_text m s first 1 rs) r

module _ (m : Meaning) (s : Sheet) (first : KeptJob) (rs : List CallRecord) (p : Page) where
  abbrev S : Setting
  S = setting m s

  pub none_written : Along m s first rs p first 0 rs p
  none_written = record { underway = none_yet S first rs; text = λ r h. h }

  -- all are carried out, and what is still to be written is the verdict of a search that is closed then
  pub all_written : (j : KeptJob) (i : ℕ) (now : List CallRecord) (q r : Page) → length now ≤ i → Along m s first rs p j i now q → Puts q (closing_text m s j (closed_job S j)) r → (now ≡ all_answered S first rs) × Puts p (calls_text m s first 1 rs) r
  all_written j i now q r last h t =
      ((all_done S first rs i now j last h.underway).0, h.text r (subst (λ xs. Puts q (calls_text m s j (suc i) xs) r) (sym (drop_all i now last)) t))

  -- one more is carried out
  pub one_more_written : (j k : KeptJob) (i : ℕ) (now : List CallRecord) (d y : CallRecord) (q r : Page) → i < length now → Along m s first rs p j i now q → Recorded m s j (i + 1) (get_or now i d) y k q r → Along m s first rs p k (i + 1) (set now i y) r
  one_more_written j k i now d y q r there h o =
      record {
        underway =
            subst (λ z. Underway S first rs (i + 1) (set now i z) k) (sym o.answer)
            (one_more S first rs i now j d there h.underway (answer_to S j x.request) k refl o.job_is);
        text = λ z t. h.text z (subst (λ xs. Puts q (calls_text m s j (suc i) xs) z) (sym (drop_more now i d there)) (both_put line (others_follow z t)));
      }
    where
      x : CallRecord
      x = get_or now i d

      rest : List CallRecord
      rest = drop (i + 1) now

      same : drop (i + 1) (set now i y) ≡ rest
      same = drop-set-lt (i + 1) now i y (omega arith)

      line : Puts q (call_line (suc i) (answer_to S j x.request) ++ closing_text m s j (job_after S j x.request)) r
      line = subst (λ n. Puts q (call_line n (answer_to S j x.request) ++ closing_text m s j (job_after S j x.request)) r) (add-one i) o.text

      others_follow : (z : Page) → Puts r (calls_text m s k (suc (i + 1)) (drop (i + 1) (set now i y))) z → Puts r (calls_text m s (job_after S j x.request) (suc (suc i)) rest) z
      others_follow z t =
          subst (λ k. Puts r (calls_text m s k (suc (suc i)) rest) z) o.job_is
          (subst (λ n. Puts r (calls_text m s k (suc n) rest) z) (add-one i) (subst (λ xs. Puts r (calls_text m s k (suc (i + 1)) xs) z) same t))
