-- The sections of a file, and how far the front of a job goes in each. Assumes nothing.
use Rattle.std.proofs.Common.{◌≡◌, ℕ, Bool, true, false, cond, eqb, ltb, [], length, Some, None, Option, ◌≢◌, sym, refl, ap, ◌∙◌}
use Rattle.std.proofs.lemmas.Bool.{eqb-true, eq-eqb, ltb-true, lt-ltb, cond-true}
use Rattle.rules.proofs.Bools.{clash}
use Rattle.jobfile.specs.declared.fields.Field.{Field}
use Rattle.jobfile.specs.declared.fields.Field.TheVariants as field
use Rattle.jobfile.specs.declared.fields.Section.{Section}
use Rattle.jobfile.specs.declared.fields.Section.TheVariants as section
use Rattle.jobfile.specs.Stated.{Stated, nothing_stated}
use Rattle.jobfile.specs.Writing.{entries, tag_of}
use Rattle.jobfile.specs.Reading.{Announced, next, announced, early}
use Rattle.jobfile.specs.Refusing.{Early, Late, Extent, nothing, to_rows, past_order, Front, so_far, MayFollow, sheet_first, row_missing, rows_there, no_later, no_call, any_call}
use Rattle.jobfile.proofs.Announcing.{announced_as}

-- how far the front of a job goes in a section
abbrev pub extent : Section → Extent
extent section.Start = nothing
extent section.Rows = to_rows
extent section.Versions = past_order
extent section.Ladders = past_order
extent section.Calls = past_order

-- the front of a job, up to a section and no further
abbrev pub FrontIn : Section → Stated → Type 0
FrontIn section.Start j = j ≡ nothing_stated
FrontIn section.Rows j = Early j
FrontIn section.Versions j = Late j × (j.ladders ≡ []) × (j.calls ≡ [])
FrontIn section.Ladders j = Late j × (j.ladders ≢ []) × (j.calls ≡ [])
FrontIn section.Calls j = Late j × (j.calls ≢ [])

pub front_in : (c : Section) (j : Stated) → FrontIn c j → Front (extent c) j
front_in section.Start j k = k
front_in section.Rows j k = k
front_in section.Versions j k = k.0
front_in section.Ladders j k = k.0
front_in section.Calls j k = k.0

-- every other section is past the order
pub is_late : (c : Section) → c ≢ section.Start → c ≢ section.Rows → early c ≡ false
is_late section.Start a b = absurd (a refl)
is_late section.Rows a b = absurd (b refl)
is_late section.Versions a b = refl
is_late section.Ladders a b = refl
is_late section.Calls a b = refl

-- before the order, and from it on
pub early_extent : (c : Section) → early c ≡ true → extent c ≢ past_order
early_extent section.Start e = λ s. absurd (cc)
early_extent section.Rows e = λ s. absurd (cc)
early_extent section.Versions e = clash {b = false} e refl
early_extent section.Ladders e = clash {b = false} e refl
early_extent section.Calls e = clash {b = false} e refl

pub late_front : (c : Section) (j : Stated) → early c ≡ false → FrontIn c j → Late j × (so_far (extent c) j ≡ entries j)
late_front section.Start j e f = clash {b = true} refl e
late_front section.Rows j e f = clash {b = true} refl e
late_front section.Versions j e f = (f.0, refl)
late_front section.Ladders j e f = (f.0, refl)
late_front section.Calls j e f = (f.0, refl)

pub same_next : {f : Field} {a b : Section} → next f a ≡ next f b → a ≡ b
same_next {f} {a} {b} e = let same : ◌≡◌ {A = Announced} (record { field = f; section = a }) (record { field = f; section = b }) = cc in ap (λ x. x.section) same

pub no_next : {f : Field} {d : Section} {P : Type 0} → None ≡ next f d → P
no_next e = absurd (cc)

pub cond_next : (b : Bool) {f : Field} {a d : Section} → cond b (next f a) None ≡ next f d → (b ≡ true) × (a ≡ d)
cond_next true e = (refl, same_next e)
cond_next false e = no_next e

-- ---- a field that is announced may follow, and is announced where it may

module _ (j : Stated) where
  follows : (c : Section) (f : Field) (d : Section) → FrontIn c j → announced j c (tag_of f) ≡ next f d → MayFollow j (extent c) f
  follows section.Start field.Sheet d k h = sheet_first
  follows section.Start field.Row d k h = no_next h
  follows section.Start field.Order d k h = no_next h
  follows section.Start field.Version d k h = no_next h
  follows section.Start field.Ladder d k h = no_next h
  follows section.Start field.Call d k h = no_next h
  follows section.Rows field.Sheet d k h = no_next h
  follows section.Rows field.Row d k h = row_missing (ltb-true _ _ (cond_next (ltb (length j.rows) j.last_row) h).0)
  follows section.Rows field.Order d k h = rows_there (eqb-true _ _ (cond_next (eqb (length j.rows) j.last_row) h).0)
  follows section.Rows field.Version d k h = no_next h
  follows section.Rows field.Ladder d k h = no_next h
  follows section.Rows field.Call d k h = no_next h
  follows section.Versions field.Sheet d k h = no_next h
  follows section.Versions field.Row d k h = no_next h
  follows section.Versions field.Order d k h = no_next h
  follows section.Versions field.Version d k h = no_later k.1 k.2
  follows section.Versions field.Ladder d k h = no_call k.2
  follows section.Versions field.Call d k h = any_call
  follows section.Ladders field.Sheet d k h = no_next h
  follows section.Ladders field.Row d k h = no_next h
  follows section.Ladders field.Order d k h = no_next h
  follows section.Ladders field.Version d k h = no_next h
  follows section.Ladders field.Ladder d k h = no_call k.2
  follows section.Ladders field.Call d k h = any_call
  follows section.Calls field.Sheet d k h = no_next h
  follows section.Calls field.Row d k h = no_next h
  follows section.Calls field.Order d k h = no_next h
  follows section.Calls field.Version d k h = no_next h
  follows section.Calls field.Ladder d k h = no_next h
  follows section.Calls field.Call d k h = any_call

  -- a field is announced, with some section after it
  abbrev pub IsNext : Section → Field → Type 0
  IsNext c f = (d : Section) × (announced j c (tag_of f) ≡ next f d)

  pub announces : (c : Section) {f : Field} → FrontIn c j → MayFollow j (extent c) f → IsNext c f
  announces section.Start k sheet_first = (section.Rows, refl)
  announces section.Rows k (row_missing h) = (section.Rows, cond-true (ltb (length j.rows) j.last_row) _ _ (lt-ltb _ _ h))
  announces section.Rows k (rows_there h) = (section.Versions, cond-true (eqb (length j.rows) j.last_row) _ _ (eq-eqb _ _ h))
  announces section.Versions k (no_later a b) = (section.Versions, refl)
  announces section.Versions k (no_call b) = (section.Ladders, refl)
  announces section.Versions k any_call = (section.Calls, refl)
  announces section.Ladders k (no_later a b) = absurd (k.1 a)
  announces section.Ladders k (no_call b) = (section.Ladders, refl)
  announces section.Ladders k any_call = (section.Calls, refl)
  announces section.Calls k (no_later a b) = absurd (k.1 b)
  announces section.Calls k (no_call b) = absurd (k.1 b)
  announces section.Calls k any_call = (section.Calls, refl)

  module _ (c : Section) (k : FrontIn c j) (tag : ℕ) where
    pub one_follows : (p : Announced) → announced j c tag ≡ Some p → MayFollow j (extent c) p.field × (tag ≡ tag_of p.field)
    one_follows p said =
        let is = (announced_as (length j.rows) j.last_row tag c p said).0 in
        (follows c p.field p.section k (ap (announced j c) (sym is) ∙ said), is)

    pub none_follows : announced j c tag ≡ None → (f : Field) → MayFollow j (extent c) f → tag ≢ tag_of f
    none_follows said f may same = no_next (sym said ∙ ap (announced j c) same ∙ (announces c k may).1)

    -- where no field that may follow has the tag, none is announced
    pub not_announced : ((f : Field) → MayFollow j (extent c) f → tag ≢ tag_of f) → (o : Option Announced) → announced j c tag ≡ o → o ≡ None
    not_announced none None said = refl
    not_announced none (Some p) said = let w = one_follows p said in absurd (none p.field w.0 w.1)
