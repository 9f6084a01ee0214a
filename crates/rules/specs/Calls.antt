-- The calls on a job, what each answers, and how it leaves the job. Assumes nothing.
use Rattle.std.specs.Prelude.{◌≡◌, ℕ, zero, suc, ◌+◌, ◌<◌, ◌≤◌, if◌then◌else◌, List, [], length, ℤ, pos, negsuc, Some, None, Option, nat_le, unsigned_abs}
use Rattle.rules.specs.declared.refusals.Refusal.{Refusal}
use Rattle.rules.specs.declared.refusals.Refusal.TheVariants.{LimitBeyond, NotInThisState, NoSuchRow, BudgetBeyond}
use Rattle.rules.specs.Bounds.{greatest_limit, most_steps}
use Rattle.rules.specs.Sheets.{Limits}
use Rattle.rules.specs.Choices.{changed}
use Rattle.rules.specs.Grounds.{Setting, Part, Ground}
use Rattle.rules.specs.Search.{State, start, Runs, Outcome, ended, full, stepped, Named, next}

-- What a closed search found: the least choice or that none keeps the limits, each with the closing ground, or, if it has not ended, the best so far.
pub data Finding : Type 0 where
  least : Part → Ground → Finding
  nothing : Ground → Finding
  filled unfinished : Option Part → Finding

-- What a close says: what was found, the steps of the search, and the grounds.
pub record Verdict : Type 0 where
  pub finding : Finding
  pub steps : ℕ
  -- how many learned grounds the job holds
  pub held : ℕ

-- A closed job has limits, learned grounds and the verdict on its last search, or none while it is unsearched; a running one has limits and its search.
pub data Job : Type 0 where
  closed : Limits → List Ground → Option Verdict → Job
  running : Limits → State → Job

-- A limit change on a row to a limit, clear, search, close, and a run with a budget.
pub data Call : Type 0 where
  change : ℕ → ℤ → Call
  clear begin_search close : Call
  run : ℤ → Call

-- Why a run stopped.
pub data Why : Type 0 where
  has_ended is_full budget_used : Why

-- A call is taken, a run with the steps made, or it is refused.
pub data Answer : Type 0 where
  taken : Answer
  ran : Why → ℕ → Answer
  refused : Refusal → Answer

-- What a search with this best choice has found.
abbrev pub when_ended : Option Part → Ground → Finding
when_ended None g = nothing g
when_ended (Some c) g = least c g

-- What it has found where the rules name an outcome.
abbrev pub finding_at : Option Part → Outcome → Finding
finding_at best (ended g) = when_ended best g
finding_at best full = filled best
finding_at best (stepped τ) = unfinished best

-- The verdict of a close.
abbrev pub verdict : State → Outcome → Verdict
verdict σ outcome = record { finding = finding_at σ.best outcome; steps = σ.steps; held = length σ.learned }

-- Why a run stops where the rules name an outcome.
abbrev pub why : Outcome → Why
why (ended g) = has_ended
why full = is_full
why (stepped τ) = budget_used

-- What a run gives, worked out.
pub record Ran : Type 0 where
  pub reason : Why
  pub made : ℕ
  pub state : State

-- The same run with one step more made before it.
abbrev pub one_more : Ran → Ran
one_more r = record { reason = r.reason; made = suc r.made; state = r.state }

-- What a call answers, and the job afterwards.
pub record Reply : Type 0 where
  pub answer : Answer
  pub job : Job

-- An answer, with the job afterwards.
abbrev pub replied : Answer → Job → Reply
replied a j = record { answer = a; job = j }

-- What a run answers, and the running job that it leaves.
abbrev pub run_reply : Limits → Ran → Reply
run_reply L r = replied (ran r.reason r.made) (running L r.state)

module _ (S : Setting) where
  -- A run of so many steps from one state to another, with a budget, and why it stopped: fewer steps than the budget only if the search has ended or is full.
  pub record Run (L : Limits) (budget : ℕ) (σ : State) (reason : Why) (made : ℕ) (τ : State) : Type 0 where
    pub outcome : Outcome
    pub steps : Runs S L made σ τ
    pub within : made ≤ budget
    pub named : Named S L τ outcome
    pub reason_is : reason ≡ why outcome
    pub used : reason ≡ budget_used → made ≡ budget

  -- Every refusal of a call on a job, in the order of the tests: the state, the row, the limit or the budget.
  pub data Refuses : Job → Call → Refusal → Type 0 where
    -- a closed job takes a limit change, clear and search only, and a running search takes run and close only
    no_run : {L : Limits} {gs : List Ground} {v : Option Verdict} {budget : ℤ} → Refuses (closed L gs v) (run budget) NotInThisState
    no_close : {L : Limits} {gs : List Ground} {v : Option Verdict} → Refuses (closed L gs v) close NotInThisState
    no_change : {L : Limits} {σ : State} {row : ℕ} {limit : ℤ} → Refuses (running L σ) (change row limit) NotInThisState
    no_clear : {L : Limits} {σ : State} → Refuses (running L σ) clear NotInThisState
    no_search : {L : Limits} {σ : State} → Refuses (running L σ) begin_search NotInThisState
    -- a limit change on a row above the last, and one to a limit too far from 0
    no_row : {L : Limits} {gs : List Ground} {v : Option Verdict} {row : ℕ} {limit : ℤ} → S.last_row < row → Refuses (closed L gs v) (change row limit) NoSuchRow
    limit_beyond : {L : Limits} {gs : List Ground} {v : Option Verdict} {row : ℕ} {limit : ℤ} → row ≤ S.last_row → greatest_limit < unsigned_abs limit → Refuses (closed L gs v) (change row limit) LimitBeyond
    -- a budget below 0, and one that with the steps already made is above the most steps
    negative : {L : Limits} {σ : State} {below : ℕ} → Refuses (running L σ) (run (negsuc below)) BudgetBeyond
    budget_beyond : {L : Limits} {σ : State} {budget : ℕ} → most_steps < σ.steps + budget → Refuses (running L σ) (run (pos budget)) BudgetBeyond

  -- A call on a job, its answer, and the job as the call leaves it.
  pub data Does : Job → Call → Answer → Job → Type 0 where
    -- a refusal alters nothing
    refuses : {j : Job} {c : Call} {e : Refusal} → Refuses j c e → Does j c (refused e) j
    -- a limit change replaces the limit of its row, and leaves the job unsearched
    changes : {L : Limits} {gs : List Ground} {v : Option Verdict} {row : ℕ} {limit : ℤ} → row ≤ S.last_row → unsigned_abs limit ≤ greatest_limit → Does (closed L gs v) (change row limit) taken (closed (changed L row limit) gs None)
    -- clear drops all learned grounds, and leaves the job unsearched
    clears : {L : Limits} {gs : List Ground} {v : Option Verdict} → Does (closed L gs v) clear taken (closed L [] None)
    -- a search begins at its start, with the learned grounds kept
    searches : {L : Limits} {gs : List Ground} {v : Option Verdict} → Does (closed L gs v) begin_search taken (running L (start S L gs))
    -- a run makes steps within its budget
    runs : {L : Limits} {σ τ : State} {budget made : ℕ} {reason : Why} → σ.steps + budget ≤ most_steps → Run L budget σ reason made τ → Does (running L σ) (run (pos budget)) (ran reason made) (running L τ)
    -- close gives the verdict on what the search has come to, and keeps its learned grounds
    closes : {L : Limits} {σ : State} (outcome : Outcome) → Named S L σ outcome → Does (running L σ) close taken (closed L σ.learned (Some (verdict σ outcome)))

  -- A run of at most so many steps, worked out step by step.
  abbrev pub run_from : Limits → ℕ → State → Ran
  run_from L zero σ = record { reason = why (next S L σ); made = 0; state = σ }
  run_from L (suc budget) σ =
      elim (next S L σ) [
        | ended g ↦ record { reason = has_ended; made = 0; state = σ }
        | full ↦ record { reason = is_full; made = 0; state = σ }
        | stepped τ ↦ one_more (run_from L budget τ)
      ]

  -- What a call answers and how it leaves the job, worked out.
  unfoldable pub reply : Job → Call → Reply
  reply (closed L gs v) (change row limit) =
      if nat_le row S.last_row
      then
      (if nat_le (unsigned_abs limit) greatest_limit
      then replied taken (closed (changed L row limit) gs None)
      else replied (refused LimitBeyond) (closed L gs v))
      else replied (refused NoSuchRow) (closed L gs v)
  reply (closed L gs v) clear = replied taken (closed L [] None)
  reply (closed L gs v) begin_search = replied taken (running L (start S L gs))
  reply (closed L gs v) close = replied (refused NotInThisState) (closed L gs v)
  reply (closed L gs v) (run budget) = replied (refused NotInThisState) (closed L gs v)
  reply (running L σ) (change row limit) = replied (refused NotInThisState) (running L σ)
  reply (running L σ) clear = replied (refused NotInThisState) (running L σ)
  reply (running L σ) begin_search = replied (refused NotInThisState) (running L σ)
  reply (running L σ) close = replied taken (closed L σ.learned (Some (verdict σ (next S L σ))))
  reply (running L σ) (run (pos budget)) =
      if nat_le (σ.steps + budget) most_steps then run_reply L (run_from L budget σ) else replied (refused BudgetBeyond) (running L σ)
  reply (running L σ) (run (negsuc below)) = replied (refused BudgetBeyond) (running L σ)
