-- A list of call records, of which some are answered and the others not yet. Assumes nothing.
use Rattle.std.proofs.Common.{◌≡◌, ℕ, suc, ◌+◌, ◌<◌, ◌≤◌, List, [], ◌∷◌, ◌++◌, length, take, drop, get_or, set, sym, refl, ap, ap₂, ◌∙◌, subst, append_assoc, append-nil, arith}
use Rattle.std.proofs.Math.Seq.{drop-cons}
use Rattle.std.proofs.lemmas.List.{take_more_set, drop-set-lt, drop_all, take_all}
use Rattle.rules.specs.declared.records.CallRecord.{CallRecord}
use Rattle.rules.specs.Grounds.{Setting}
use Rattle.rules.specs.declared.sheets.Sheet.{Sheet}
use Rattle.rules.specs.Catalogues.{Meaning, SoundMeaning}
use Rattle.rules.specs.Openings.{opening}
use Rattle.rules.specs.Histories.{Entry}
use Rattle.rules.specs.Settings.{setting}
use Rattle.rules.specs.KeptJobs.{CameBy, KeptJob, opened_with}
use Rattle.rules.specs.Records.{Lawful, all_answered, answer_to, answered, closed_job, job_after, job_after_all}
use Rattle.rules.proofs.Works.{record_law}

module _ (S : Setting) (first : KeptJob) (asked : List CallRecord) where
  -- so many records are answered, and on the job that has come about the others come to the same as on the first
  pub record Underway (i : ℕ) (rs : List CallRecord) (k : KeptJob) : Type 0 where
    pub answers : take i rs ++ all_answered S k (drop i rs) ≡ all_answered S first asked
    pub left : job_after_all S k (drop i rs) ≡ job_after_all S first asked

  pub none_yet : Underway 0 asked first
  none_yet = record { answers = refl; left = refl }

  pub one_more : (i : ℕ) (rs : List CallRecord) (k : KeptJob) (d : CallRecord) → i < length rs → Underway i rs k → (answer : ℕ) (after : KeptJob) → answer ≡ answer_to S k (get_or rs i d).request → after ≡ job_after S k (get_or rs i d).request → Underway (i + 1) (set rs i (answered (get_or rs i d) answer)) after
  one_more i rs k d there u answer after is goes =
      let r : CallRecord = get_or rs i d in
      let here : drop i rs ≡ r ∷ drop (i + 1) rs = let next : suc i ≡ i + 1 = omega arith in drop-cons rs i d there ∙ ap (λ n. r ∷ drop n rs) next in
      let rest : drop (i + 1) (set rs i (answered r answer)) ≡ drop (i + 1) rs = drop-set-lt (i + 1) rs i (answered r answer) (omega arith) in
      record {
        answers =
            ap₂ (λ xs ys. xs ++ all_answered S after ys) (take_more_set rs i (answered r answer) there) rest
            ∙ append_assoc (take i rs) (answered r answer ∷ []) (all_answered S after (drop (i + 1) rs))
            ∙ ap₂ (λ n j. take i rs ++ (answered r n ∷ all_answered S j (drop (i + 1) rs))) is goes
            ∙ sym (ap (λ xs. take i rs ++ all_answered S k xs) here)
            ∙ u.answers;
        left = ap (job_after_all S after) rest ∙ ap (λ j. job_after_all S j (drop (i + 1) rs)) goes ∙ sym (ap (job_after_all S k) here) ∙ u.left;
      }

  pub all_done : (i : ℕ) (rs : List CallRecord) (k : KeptJob) → length rs ≤ i → Underway i rs k → (rs ≡ all_answered S first asked) × (closed_job S k ≡ job_after_all S first asked)
  all_done i rs k last u =
      let none : drop i rs ≡ [] = drop_all i rs last in
      (sym (append-nil rs) ∙ sym (ap₂ (λ xs ys. xs ++ all_answered S k ys) (take_all i rs last) none) ∙ u.answers, sym (ap (job_after_all S k) none) ∙ u.left)

-- what is worked out is lawful
pub lawful : (m : Meaning) → SoundMeaning m → (s : Sheet) (before : List Entry) (k : KeptJob) (asked rs : List CallRecord) (after : KeptJob) → rs ≡ all_answered (setting m s) k asked → after ≡ job_after_all (setting m s) k asked → CameBy m s before k → Lawful m s before rs after
lawful m w s before k asked rs after answers left came =
    subst (λ xs. Lawful m s before xs after) (sym answers)
    (subst (Lawful m s before (all_answered (setting m s) k asked)) (sym left) ((record_law m w s).carries before k came asked).0)

-- on a job that was opened it is lawful with no call before
pub lawful_opened : (m n : Meaning) (s t : Sheet) (k : KeptJob) (rs : List CallRecord) (after : KeptJob) → SoundMeaning m → n ≡ m → t ≡ s → k ≡ opened_with s (opening m s) → ((before : List Entry) → CameBy n t before k → Lawful n t before rs after) → Lawful m s [] rs after
lawful_opened m n s t k rs after w same_meaning same_sheet opening_is lawful =
    let opens : CameBy m s [] k = subst (CameBy m s []) (sym opening_is) (record_law m w s).opens in
    let came : CameBy n t [] k = subst (λ x. CameBy x t [] k) (sym same_meaning) (subst (λ y. CameBy m y [] k) (sym same_sheet) opens) in
    subst (λ x. Lawful x s [] rs after) same_meaning (subst (λ y. Lawful n y [] rs after) same_sheet (lawful [] came))
