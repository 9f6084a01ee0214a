-- What comes about on a job, call after call, and what can be read off the calls and their answers. Assumes nothing.
use Rattle.std.specs.Prelude.{◌≡◌, ℕ, ◌+◌, ◌<◌, ◌⊎◌, List, [], ◌∷◌, pos, negsuc, Some, None, Option}
use Rattle.rules.specs.Sheets.{Limits}
use Rattle.rules.specs.Choices.{changed}
use Rattle.rules.specs.Grounds.{Setting, Ground}
use Rattle.rules.specs.Search.{Ended, Full}
use Rattle.rules.specs.Calls.{Job, closed, running, Call, change, clear, begin_search, close, run, Why, Answer, taken, ran, refused, Does, reply}

-- A call with its answer.
pub record Entry : Type 0 where
  pub call : Call
  pub answer : Answer

-- What comes about on a job that was opened with these limits: the calls so far, the latest first, and the job as they leave it.
pub data History (S : Setting) (L : Limits) : List Entry → Job → Type 0 where
  opened : History S L [] (closed L [] None)
  called : {es : List Entry} {j k : Job} {c : Call} {a : Answer} → History S L es j → Does S j c a k → History S L (record { call = c; answer = a } ∷ es) k

-- The calls so far with their answers, the latest first, and the job as they leave it.
pub record Played : Type 0 where
  pub entries : List Entry
  pub job : Job

-- A job as it is opened.
abbrev pub unplayed : Limits → Played
unplayed L = record { entries = []; job = closed L [] None }

-- One call more, worked out.
abbrev pub one_call : Setting → Played → Call → Played
one_call S p c = record { entries = record { call = c; answer = (reply S p.job c).answer } ∷ p.entries; job = (reply S p.job c).job }

-- What a list of calls comes to, one after the other.
abbrev pub play : Setting → Played → List Call → Played
play S p [] = p
play S p (c ∷ cs) = play S (one_call S p c) cs

-- The limits that are in force on a job.
abbrev pub limits_of : Job → Limits
limits_of (closed L gs v) = L
limits_of (running L σ) = L

-- The learned grounds that a job holds.
abbrev pub learned_of : Job → List Ground
learned_of (closed L gs v) = gs
learned_of (running L σ) = σ.learned

-- The limits after a call more: a limit change that is taken replaces its row's.
abbrev pub limit_after : Answer → Call → Limits → Limits
limit_after (ran w m) c L = L
limit_after (refused e) c L = L
limit_after taken (change row limit) L = changed L row limit
limit_after taken clear L = L
limit_after taken begin_search L = L
limit_after taken close L = L
limit_after taken (run b) L = L

-- The limits that a job was opened with, each replaced by the last limit change taken on its row.
abbrev pub limits_after : Limits → List Entry → Limits
limits_after L [] = L
limits_after L (e ∷ es) = limit_after e.answer e.call (limits_after L es)

-- The steps of the last search, after a call more: a run adds its steps, and a search begins anew.
abbrev pub count : Answer → Call → ℕ → ℕ
count (ran w m) c k = m + k
count (refused e) c k = k
count taken begin_search k = 0
count taken (change row limit) k = k
count taken clear k = k
count taken close k = k
count taken (run b) k = k

-- The steps of the last search, as its runs answered them.
abbrev pub steps_run : List Entry → ℕ
steps_run [] = 0
steps_run (e ∷ es) = count e.answer e.call (steps_run es)

-- Why the last run of the last search stopped, after a call more: a run says it anew, and a search that begins has none.
abbrev pub why_after : Answer → Call → Option Why → Option Why
why_after (ran w m) c o = Some w
why_after (refused e) c o = o
why_after taken begin_search o = None
why_after taken (change row limit) o = o
why_after taken clear o = o
why_after taken close o = o
why_after taken (run b) o = o

-- Why the last run of the last search stopped, as it answered.
abbrev pub last_why : List Entry → Option Why
last_why [] = None
last_why (e ∷ es) = why_after e.answer e.call (last_why es)

-- The learned grounds with which the last search began, after a call more: a search that is taken begins with those that the job holds.
abbrev pub grounds_after : Answer → Job → Call → List Ground → List Ground
grounds_after (ran w m) j c gs = gs
grounds_after (refused e) j c gs = gs
grounds_after taken j begin_search gs = learned_of j
grounds_after taken j (change row limit) gs = gs
grounds_after taken j clear gs = gs
grounds_after taken j close gs = gs
grounds_after taken j (run b) gs = gs

module _ (S : Setting) where
  -- The learned grounds with which the last search of a history began.
  abbrev pub began_with : {L : Limits} {es : List Entry} {j : Job} → History S L es j → List Ground
  began_with opened = []
  began_with (called {j = j} {c = c} {a = a} h d) = grounds_after a j c (began_with h)

  -- A run that made k steps and left the job so made as many as its budget, or fewer and the search has ended or is full.
  abbrev pub RunKept : ℕ → Call → Job → Type 0
  RunKept k (run (pos b)) (running L σ) = (k ≡ b) ⊎ ((k < b) × (((g : Ground) × Ended S L σ g) ⊎ Full S L σ))
  RunKept k (run (pos b)) (closed L gs v) = ⊥
  RunKept k (run (negsuc b)) j = ⊥
  RunKept k (change row limit) j = ⊥
  RunKept k clear j = ⊥
  RunKept k begin_search j = ⊥
  RunKept k close j = ⊥

  -- So it is with a call that answered as a run.
  abbrev pub BudgetKept : Answer → Call → Job → Type 0
  BudgetKept (ran w k) c j = RunKept k c j
  BudgetKept taken c j = Unit {0}
  BudgetKept (refused e) c j = Unit {0}

  -- So it is with the last call.
  abbrev pub LastBudgetKept : List Entry → Job → Type 0
  LastBudgetKept [] j = Unit {0}
  LastBudgetKept (e ∷ es) j = BudgetKept e.answer e.call j
