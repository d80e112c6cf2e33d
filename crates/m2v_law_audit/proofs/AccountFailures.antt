-- The failures that are told of removals: none exactly where no removal fails; and at variable rate exactly where some delivery
-- has each picture in time.
use Rattle.std.proofs.Common.{◌≡◌, ℕ, ◌+◌, ◌*◌, ◌↔◌, Bool, true, false, ◌||◌, List, [], ◌∷◌, ◌++◌, Option, Some, None, refl, sym, ap, subst, ◌∙◌, arith}
use Rattle.std.specs.Prelude.{map, if◌then◌else◌}
use Rattle.std.specs.List.{flat_map}
use Rattle.std.proofs.lemmas.Bool.{not-false}
use Rattle.m2v_vbv.specs.declared.removed.Removed.{Removed}
use Rattle.m2v_vbv.specs.Buffer.{Buffer, size_of, variable_start, tells}
use Rattle.m2v_vbv.specs.Deliveries.{NoneFails, Delivers, HasInTime, amounts_of}
use Rattle.m2v_vbv.proofs.Varying.{all_in_time, delivers}
use Rattle.m2v_model.specs.declared.state.Sequence.{Sequence}
use Rattle.m2v_model.specs.PieceNotes.{note_of}
use Rattle.m2v_model.specs.Streams.{Sofar}
use Rattle.m2v_model.specs.Pieces.{pieces}
use Rattle.m2v_model.specs.Lawful.{Numbered, rate_of}
use Rattle.m2v_model.specs.Buffering.{code_bits}
use Rattle.m2v_audit.specs.declared.account.Due.{Due}
use Rattle.m2v_audit.specs.declared.report.Rate.{Rate}
use Rattle.m2v_audit.specs.Account.{Told, pictures, all_told}
use Rattle.m2v_audit.specs.HeaderRecords.{rate_with}
use Rattle.m2v_audit.specs.Opening.{has_account, varies, buffer_bits_of, step_of, buffer_at_first}
use Rattle.m2v_audit.specs.Report.{under_of, over_of}
use Rattle.m2v_audit.proofs.Reports.{removals_told}
use Rattle.m2v_law_audit.specs.Found.{failures_of}
use Rattle.m2v_law_audit.specs.Sequences.{first_byte}
use Rattle.m2v_law_audit.specs.Accounts.{Beginning, with_buffer, beginning_by, beginning_in, dues_in, numbered_in, failures_by, FailsWhereNoneDelivers}

-- ---- none

none_by : {A : Type 0} (u o : Bool) (x y : A) (xs : List A) → ((if u then x ∷ [] else []) ++ (if o then y ∷ [] else [])) ++ xs ≡ [] → ((u || o) ≡ false) × (xs ≡ [])
none_by true o x y xs e = absurd cc
none_by false true x y xs e = absurd cc
none_by false false x y xs e = (refl, e)

none_from : {A : Type 0} (u o : Bool) (x y : A) (xs : List A) → (u || o) ≡ false → xs ≡ [] → ((if u then x ∷ [] else []) ++ (if o then y ∷ [] else [])) ++ xs ≡ []
none_from true o x y xs f e = absurd cc
none_from false true x y xs f e = absurd cc
none_from false false x y xs f e = e

-- what is told of removals, without the pictures
abbrev pub of_removals : List Told → List Removed
of_removals ts = map (λ (t : Told). t.1) ts

none_fails : (number : ℕ) (rate : Rate) (ts : List Told) → flat_map (failures_of number rate) ts ≡ [] → NoneFails (of_removals ts)
none_fails number rate [] e = tt
none_fails number rate (t ∷ ts) e =
    let h = none_by t.1.is_under t.1.is_over (under_of number rate t.0 t.1) (over_of number rate t.0 t.1) (flat_map (failures_of number rate) ts) e in
    (h.0, none_fails number rate ts h.1)

none_told : (number : ℕ) (rate : Rate) (ts : List Told) → NoneFails (of_removals ts) → flat_map (failures_of number rate) ts ≡ []
none_told number rate [] none = refl
none_told number rate (t ∷ ts) none =
    none_from t.1.is_under t.1.is_over (under_of number rate t.0 t.1) (over_of number rate t.0 t.1) (flat_map (failures_of number rate) ts) none.0 (none_told number rate ts none.1)

-- no failure is told of removals exactly where none of them fails
pub none_exactly : (number : ℕ) (rate : Rate) (ts : List Told) → (flat_map (failures_of number rate) ts ≡ []) ↔ NoneFails (of_removals ts)
none_exactly number rate ts = (none_fails number rate ts, none_told number rate ts)

-- the same of pictures that no bits follow
pub none_of_all : (number : ℕ) (rate : Rate) (b : Buffer) (ds : List Due) → (flat_map (failures_of number rate) (all_told b ds) ≡ []) ↔ NoneFails (tells b (pictures ds) 0)
none_of_all number rate b ds =
    subst (λ (rs : List Removed). (flat_map (failures_of number rate) (all_told b ds) ≡ []) ↔ NoneFails rs) (removals_told b ds) (none_exactly number rate (all_told b ds))

-- ---- how a buffer begins

-- with a first sequence header, a first piece and a first picture
pub record Begins (s : Sequence) (at : ℕ) (p : List ℕ) (n : Numbered) (x : Beginning) : Type 0 where
  pub has : has_account s ≡ true
  pub rate : x.rate ≡ rate_with s (Some (note_of (8 * at + code_bits p) n.picture))
  pub buffer : x.buffer ≡ buffer_at_first s (note_of (8 * at + code_bits p) n.picture) (code_bits p)

begins_if : (has : Bool) (rate : Rate) (b : Buffer) (x : Beginning) → with_buffer rate (if has then Some b else None) ≡ Some x → (has ≡ true) × (x.rate ≡ rate) × (x.buffer ≡ b)
begins_if true rate b x e =
    let is : record { rate = rate; buffer = b } ≡ x = cc in
    (refl, ap (λ (y : Beginning). y.rate) (sym is), ap (λ (y : Beginning). y.buffer) (sym is))
begins_if false rate b x e = absurd cc

pub begins_so : (s : Sequence) (at : ℕ) (p : List ℕ) (ps : List (List ℕ)) (n : Numbered) (ns : List Numbered) (x : Beginning) → beginning_by (Some s) at (p ∷ ps) (n ∷ ns) ≡ Some x → Begins s at p n x
begins_so s at p ps n ns x e =
    let note = note_of (8 * at + code_bits p) n.picture in
    let h = begins_if (has_account s) (rate_with s (Some note)) (buffer_at_first s note (code_bits p)) x e in
    record { has = h.0; rate = h.1; buffer = h.2 }

-- with those that there are
record HasBegun (at : ℕ) (x : Beginning) : Type 0 where
  sequence : Sequence
  piece : List ℕ
  first : Numbered
  begins : Begins sequence at piece first x

has_begun : (at : ℕ) (o : Option Sequence) (ps : List (List ℕ)) (ns : List Numbered) (x : Beginning) → beginning_by o at ps ns ≡ Some x → HasBegun at x
has_begun at None ps ns x e = absurd cc
has_begun at (Some s) [] ns x e = absurd cc
has_begun at (Some s) (p ∷ ps) [] x e = absurd cc
has_begun at (Some s) (p ∷ ps) (n ∷ ns) x e = record {
  sequence = s;
  piece = p;
  first = n;
  begins = begins_so s at p ps n ns x e;
}

-- ---- at variable rate

begins_full : (s : Sequence) (at : ℕ) (p : List ℕ) (n : Numbered) (x : Beginning) → Begins s at p n x → x.rate.constant ≡ false → x.buffer ≡ variable_start (rate_of s) (buffer_bits_of s) (step_of s)
begins_full s at p n x h varying =
    let note = note_of (8 * at + code_bits p) n.picture in
    let on : varies note ≡ true = not-false (varies note) (sym (ap (λ (r : Rate). r.constant) h.rate) ∙ varying) in
    h.buffer ∙ rw on refl

-- some delivery has each picture in time
abbrev SomeDelivers : Buffer → List Due → Type 0
SomeDelivers b ds =
    (os : List ℕ) × (Delivers b.inflow (size_of b.inflow) (pictures ds) 0 os × HasInTime (pictures ds) os)

fails_full : (number : ℕ) (rate : Rate) (k size step : ℕ) (ds : List Due) → let b : Buffer = variable_start k size step in (flat_map (failures_of number rate) (all_told b ds) ≡ []) ↔ SomeDelivers b ds
fails_full number rate k size step ds =
    let b : Buffer = variable_start k size step in
    let h = none_of_all number rate b ds in (
      λ none. (amounts_of (tells b (pictures ds) 0), delivers k size step 0 0 (1800 * size) (1800 * size) 0 (pictures ds) (omega arith) (h.0 none)),
      λ some. h.1 (all_in_time k size step 0 0 (1800 * size) (1800 * size) 0 (pictures ds) some.0 (omega arith) some.1.0 some.1.1),
    )

fails_varying : (number : ℕ) (o : Option Beginning) (x : Beginning) (k size step : ℕ) (ds : List Due) → o ≡ Some x → x.buffer ≡ variable_start k size step → (failures_by number o ds ≡ []) ↔ SomeDelivers x.buffer ds
fails_varying number o x k size step ds e is =
    subst (λ (y : Option Beginning). (failures_by number y ds ≡ []) ↔ SomeDelivers x.buffer ds) (sym e)
    (subst (λ (b : Buffer). (flat_map (failures_of number x.rate) (all_told b ds) ≡ []) ↔ SomeDelivers b ds) (sym is) (fails_full number x.rate k size step ds))

-- no failure is told exactly where some delivery has each picture in time
pub fails_where_none_delivers : (text : List ℕ) (tree : Sofar) → FailsWhereNoneDelivers text tree
fails_where_none_delivers text tree number start x e varying =
    let h = has_begun (first_byte start text) tree.state.first (pieces text) (numbered_in tree) x e in
    let s = h.sequence in
    fails_varying number (beginning_in start text tree) x (rate_of s) (buffer_bits_of s) (step_of s) (dues_in start text tree) e
    (begins_full s (first_byte start text) h.piece h.first x h.begins varying)
