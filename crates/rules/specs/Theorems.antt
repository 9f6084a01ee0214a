-- The theorems on the rules; each is the contract of a function. Assumes nothing.
use Rattle.std.specs.Prelude.{◌≡◌, ℕ, ◌≤◌, false, List, [], length, map, reverse, Some, None, ◌≢◌}
use Rattle.std.specs.List.{AllByRecursion, AllPairs, Contains}
use Rattle.rules.specs.declared.lines.Line.{Line}
use Rattle.rules.specs.declared.records.CallRecord.{CallRecord}
use Rattle.rules.specs.declared.refusals.Fault.{Fault}
use Rattle.rules.specs.declared.refusals.Refusal.{Refusal}
use Rattle.rules.specs.declared.sheets.Sheet.{Sheet}
use Rattle.rules.specs.Catalogues.{Meaning, SoundMeaning}
use Rattle.rules.specs.Sheets.{Limits, limit_of, order_of, AnyByRecursion}
use Rattle.rules.specs.Choices.{part_choices}
use Rattle.rules.specs.Openings.{opening, Faultless, FaultFound}
use Rattle.rules.specs.Grounds.{Setting, SoundSetting, Part, Ground, Learnable, Ordered, Proper, open_places, moved, learn_from}
use Rattle.rules.specs.Search.{State, Outcome, Named, next}
use Rattle.rules.specs.Calls.{Job, Call, Answer, refused, Does, reply}
use Rattle.rules.specs.Histories.{Entry, History, unplayed, play}
use Rattle.rules.specs.Settings.{setting, TrueGround}
use Rattle.rules.specs.Promises.{RightThroughout}
use Rattle.rules.specs.KeptJobs.{KeptJob, CameBy, opened_with}
use Rattle.rules.specs.Records.{requests, Lawful, all_answered, job_after_all}

-- At every state the rules name one outcome, which `next` works out.
abbrev pub StepLaw : Type 0
StepLaw = (S : Setting) (L : Limits) (σ : State) → Named S L σ (next S L σ) × ((o : Outcome) → Named S L σ o → o ≡ next S L σ)

-- Every call has one answer and leaves the job in one way, which `reply` works out.
abbrev pub CallLaw : Type 0
CallLaw = (S : Setting) (j : Job) (c : Call) → Does S j c (reply S j c).answer (reply S j c).job × ((a : Answer) (k : Job) → Does S j c a k → (a ≡ (reply S j c).answer) × (k ≡ (reply S j c).job))

-- A call that is refused alters nothing.
abbrev pub RefusalLaw : Type 0
RefusalLaw = (S : Setting) (j k : Job) (c : Call) (e : Refusal) → Does S j c (refused e) k → k ≡ j

-- Every list of calls on an opened job has a history, which `play` works out; and a history is what its calls come to.
abbrev pub HistoryLaw : Type 0
HistoryLaw =
    (S : Setting) (L : Limits) →
    record {
      has_history : (cs : List Call) → History S L (play S (unplayed L) cs).entries (play S (unplayed L) cs).job;
      is_played : (es : List Entry) (j : Job) → History S L es j → record { entries = es; job = j } ≡ play S (unplayed L) (reverse (map (λ e. e.call) es));
    }

-- A ground that can be learned, at whatever limits and in whatever order of steps, is true at every list of limits.
abbrev pub GroundLaw : Type 0
GroundLaw = (m : Meaning) → SoundMeaning m → (s : Sheet) → Faultless m s → (g : Ground) → Learnable (setting m s) g → TrueGround m s g

-- A line at the place of another, whose constant isn't worse.
abbrev pub Replaces : Setting → Line → Line → Type 0
Replaces S l k = (l.row ≡ k.row) × (l.level ≡ k.level) × ((S.joining l.row).worse l.constant k.constant ≡ false)

-- What a ground has in it that is learned after t from a ground for each version there: the moved lines of those grounds, and of two at one place the one whose constant isn't worse.
pub record Learned (S : Setting) (t : Part) (pick : ℕ → Ground) (g : Ground) : Type 0 where
  pub ordered : Ordered g
  pub taken_over : AllByRecursion (λ l. (v : ℕ) × (1 ≤ v) × (v ≤ S.versions (open_places S t)) × AnyByRecursion (λ k. l ≡ moved S t v k) (pick v)) g
  pub replaced : (v : ℕ) → 1 ≤ v → v ≤ S.versions (open_places S t) → AllByRecursion (λ k. AnyByRecursion (λ l. Replaces S l (moved S t v k)) g) (pick v)

-- A ground is learned from grounds over the setting's rows as the rules say.
abbrev pub LearningLaw : Type 0
LearningLaw =
    (S : Setting) → SoundSetting S → (t : Part) (pick : ℕ → Ground) → ((v : ℕ) → 1 ≤ v → v ≤ S.versions (open_places S t) → AllByRecursion (λ l. l.row ≤ S.last_row) (pick v)) → Learned S t pick (learn_from S t pick)

-- A list of all part-choices, each once, is as long as is counted.
pub record AllCounted (m : Meaning) (s : Sheet) (ps : List Part) : Type 0 where
  pub proper : AllByRecursion (Proper (setting m s)) ps
  pub each : (c : Part) → Proper (setting m s) c → Contains ps c
  pub once : AllPairs (λ c d. c ≢ d) ps
  pub counted : length ps ≡ part_choices m (order_of s)

-- The part-choices stand in such a list.
abbrev pub CountLaw : Type 0
CountLaw = (m : Meaning) → SoundMeaning m → (s : Sheet) → Faultless m s → (ps : List Part) × AllCounted m s ps

-- An opening finds no fault exactly when there is none, and else that of the first test that fails.
abbrev pub OpeningLaw : Type 0
OpeningLaw =
    (m : Meaning) (s : Sheet) →
    record {
      none : (opening m s ≡ None → Faultless m s) × (Faultless m s → opening m s ≡ None);
      first : (f : Fault) → (opening m s ≡ Some f → FaultFound m s f) × (FaultFound m s f → opening m s ≡ Some f);
    }

-- With every catalogue that keeps its bounds and every sheet with which a job opens without fault, along every history of calls, what is promised holds at every time.
abbrev pub PromiseLaw : Type 0
PromiseLaw =
    (m : Meaning) → SoundMeaning m → (s : Sheet) → Faultless m s → (es : List Entry) (j : Job) (h : History (setting m s) (limit_of s) es j) → RightThroughout m s h

-- With every catalogue that keeps its bounds and every sheet: a job is opened as the rules say; and on a job that any calls have led to, what is worked out for a list of call records is what the rules say, right at every time, and asks what was asked.
abbrev pub RecordLaw : Type 0
RecordLaw =
    (m : Meaning) → SoundMeaning m → (s : Sheet) →
    record {
      opens : CameBy m s [] (opened_with s (opening m s));
      carries :
          (before : List Entry) (k : KeptJob) → CameBy m s before k → (rs : List CallRecord) →
          Lawful m s before (all_answered (setting m s) k rs) (job_after_all (setting m s) k rs) × (requests (all_answered (setting m s) k rs) ≡ requests rs);
    }
