-- The anchors of the whole stream and those of a cut, and which pictures the cut leaves out.
use Rattle.std.proofs.Common.{◌≡◌, ℕ, zero, suc, ◌≤◌, Bool, true, false, List, [], ◌∷◌, Option, Some, None, ◌⊎◌, inl, inr, refl, sym, ap, subst, ◌∙◌, arith}
use Rattle.std.specs.Prelude.{nat_eq, nat_le, is_some, not, ◌&&◌, ◌||◌, if◌then◌else◌}
use Rattle.std.proofs.lemmas.Bool.{cases_Bool, both_ways, eqb-true, le-ltb}
use Rattle.m2v_model.specs.m2v_macroblock.m2v_head.declared.group.GroupInfo.{GroupInfo}
use Rattle.m2v_model.specs.m2v_macroblock.m2v_head.declared.picture.PictureInfo.{PictureInfo}
use Rattle.m2v_model.specs.m2v_macroblock.m2v_head.declared.picture.PictureExtension.{PictureExtension}
use Rattle.m2v_model.specs.declared.state.Open.{Open}
use Rattle.m2v_model.specs.declared.state.FirstField.{FirstField}
use Rattle.m2v_model.specs.declared.state.State.{State}
use Rattle.m2v_model.specs.States.{is_b, is_frame, has_anchor, drops, references_for, begun_open, opened, one_anchor_more, may_follow, is_second_field_due}
use Rattle.m2v_law_group.proofs.Alike.{IsLeftOut}

-- a picture of a type is left out, behind so many anchors of the cut
abbrev pub is_left_kind : Bool → ℕ → ℕ → Bool
is_left_kind changed anchors kind = changed && (is_b kind && not (nat_le 2 anchors))

-- the group isn't closed, or its first picture is still to come, or a first field of an anchor waits
abbrev IsOpenGroup : Bool → Bool → Option FirstField → Type 0
IsOpenGroup fresh closed waiting = (closed ≡ false) ⊎ ((fresh ≡ true) ⊎ ((f : FirstField) × (waiting ≡ Some f) × (is_b f.kind ≡ false)))

-- The anchors of the whole and of the cut, and what their last group headers say, behind that of the chosen group (ready) or
-- before it: where the cut's first group header wasn't
-- changed they are the same; else the cut has none, then one, and then both have two at least.
pub data Reach (ready changed fresh : Bool) (whole cut : ℕ) (group own : Bool) (waiting : Option FirstField) : Type 0 where
  as_whole : changed ≡ false → whole ≡ cut → (ready ≡ true → group ≡ own) → Reach ready changed fresh whole cut group own waiting
  none_yet : changed ≡ true → cut ≡ 0 → (ready ≡ true → own ≡ false) → ((f : FirstField) → waiting ≡ Some f → f.kind ≡ 1) → Reach ready changed fresh whole cut group own waiting
  one_yet : changed ≡ true → cut ≡ 1 → nat_le 1 whole ≡ true → IsOpenGroup fresh own waiting → Reach ready changed fresh whole cut group own waiting
  two_both : changed ≡ true → cut ≡ 2 → whole ≡ 2 → Reach ready changed fresh whole cut group own waiting

abbrev pub Reaches : Bool → Bool → Bool → State → State → Type 0
Reaches ready changed fresh w c = Reach ready changed fresh w.anchors c.anchors w.closed_gop c.closed_gop c.waiting

-- what holds of the next picture: the first behind a group header is I, and so are those of the cut's first frame
pub record Fits (changed fresh : Bool) (anchors kind : ℕ) : Type 0 where
  pub fresh_intra : fresh ≡ true → kind ≡ 1
  pub first_intra : changed ≡ true → anchors ≡ 0 → kind ≡ 1

-- ---- Booleans

pub or_true : (b : Bool) → (b || true) ≡ true
or_true true = refl
or_true false = refl

pub and_false : (b : Bool) → (b && false) ≡ false
and_false true = refl
and_false false = refl

-- ---- the anchor that a picture needs

pub anchor_kept : (ready changed fresh : Bool) (w c : State) (info : PictureInfo) → w.waiting ≡ c.waiting → Reaches ready changed fresh w c → Fits changed fresh c.anchors info.kind → has_anchor w info ≡ true → has_anchor c info ≡ true
anchor_kept ready changed fresh w c info waits (as_whole off same closed) fits h = subst (λ (n : ℕ). (not (nat_eq info.kind 2) || (is_some c.waiting || nat_le 1 n)) ≡ true) same (subst (λ (f : Option FirstField). (not (nat_eq info.kind 2) || (is_some f || nat_le 1 w.anchors)) ≡ true) waits h)
anchor_kept ready changed fresh w c info waits (none_yet on none own intra) fits h = subst (λ (n : ℕ). (not (nat_eq n 2) || (is_some c.waiting || nat_le 1 c.anchors)) ≡ true) (sym (fits.first_intra on none)) refl
anchor_kept ready changed fresh w c info waits (one_yet on one some own) fits h = subst (λ (n : ℕ). (not (nat_eq info.kind 2) || (is_some c.waiting || nat_le 1 n)) ≡ true) (sym one) (rw (or_true (is_some c.waiting)) (or_true (not (nat_eq info.kind 2))))
anchor_kept ready changed fresh w c info waits (two_both on two both) fits h = subst (λ (n : ℕ). (not (nat_eq info.kind 2) || (is_some c.waiting || nat_le 1 n)) ≡ true) (sym two) (rw (or_true (is_some c.waiting)) (or_true (not (nat_eq info.kind 2))))

-- ---- the picture that begins

-- the picture of the whole, and that of the cut
abbrev pub BegunAs : Bool → Open → Open → Type 0
BegunAs true p q = IsLeftOut p q
BegunAs false p q = p ≡ q

abbrev made : Bool → Bool → Bool → List Bool → PictureInfo → PictureExtension → Open
made second headers dropped references info extension = begun_open info extension second dropped (headers || dropped) references

pub same_begun : (w c : State) (info : PictureInfo) (extension : PictureExtension) → w.waiting ≡ c.waiting → w.headers_only ≡ c.headers_only → drops w info.kind ≡ drops c info.kind
    → references_for w info.kind extension.structure ≡ references_for c info.kind extension.structure → opened w info extension ≡ opened c info extension
same_begun w c info extension waits headers dropped references =
    ap (λ (f : Option FirstField). made (is_some f) w.headers_only (drops w info.kind) (references_for w info.kind extension.structure) info extension) waits
    ∙ ap (λ (b : Bool). made (is_some c.waiting) b (drops w info.kind) (references_for w info.kind extension.structure) info extension) headers
    ∙ ap (λ (b : Bool). made (is_some c.waiting) c.headers_only b (references_for w info.kind extension.structure) info extension) dropped
    ∙ ap (λ (l : List Bool). made (is_some c.waiting) c.headers_only (drops c info.kind) l info extension) references

-- whether a picture is dropped, and its references, by the numbers that they go by
abbrev pub drops_by : ℕ → Bool → ℕ → Bool
drops_by anchors closed kind = is_b kind && not (nat_le 2 anchors || (nat_eq anchors 1 && closed))

abbrev forward_by : ℕ → Bool → ℕ → ℕ → ℕ → Bool
forward_by anchors waits kind structure field = (nat_eq kind 2 && (nat_le 1 anchors || (waits && not (nat_eq structure field)))) || (is_b kind && nat_le 2 anchors)

abbrev pub references_by : ℕ → Bool → ℕ → ℕ → List Bool
references_by anchors waits kind structure =
    forward_by anchors waits kind structure 1 ∷ forward_by anchors waits kind structure 2 ∷ (is_b kind && nat_le 1 anchors) ∷ (is_b kind && nat_le 1 anchors) ∷ []

-- the second field of a B picture is one
pub b_follows : (waiting : Option FirstField) (info : PictureInfo) (extension : PictureExtension) (f : FirstField) → waiting ≡ Some f → is_second_field_due waiting info extension ≡ true → is_b f.kind ≡ true → info.kind ≡ f.kind
b_follows None info extension f e due b = absurd cc
b_follows (Some g) info extension f e due b =
    let same : g ≡ f = cc in
    let may = last_part (not (is_frame extension)) (not (nat_eq extension.structure g.structure)) (may_follow g.kind info.kind) due in
    b_only f.kind info.kind (eqb-true f.kind 3 b) (subst (λ (x : FirstField). may_follow x.kind info.kind ≡ true) same may)
  where
    last_part : (a b c : Bool) → (a && (b && c)) ≡ true → c ≡ true
    last_part true true c e = e
    last_part true false c e = absurd cc
    last_part false b c e = absurd cc

    other : (b c : Bool) → (b || (false && c)) ≡ true → b ≡ true
    other true c e = refl
    other false c e = absurd cc

    b_only : (before kind : ℕ) → before ≡ 3 → may_follow before kind ≡ true → kind ≡ before
    b_only before kind three may =
        let h : (nat_eq kind 3 || (false && nat_eq kind 2)) ≡ true = subst (λ (n : ℕ). may_follow n kind ≡ true) three may in
        eqb-true kind 3 (other (nat_eq kind 3) (nat_eq kind 2) h) ∙ sym three

-- a B picture that comes where the cut has one anchor finds its group open
open_for_b : (fresh closed : Bool) (waiting : Option FirstField) (changed : Bool) (info : PictureInfo) (extension : PictureExtension) → IsOpenGroup fresh closed waiting → Fits changed fresh 1 info.kind → is_second_field_due waiting info extension ≡ true → is_b info.kind ≡ true → closed ≡ false
open_for_b fresh closed waiting changed info extension (inl off) fits due b = off
open_for_b fresh closed waiting changed info extension (inr (inl on)) fits due b = let h : is_b 1 ≡ true = subst (λ (n : ℕ). is_b n ≡ true) (fits.fresh_intra on) b in absurd cc
open_for_b fresh closed waiting changed info extension (inr (inr h)) fits due b = absurd (no_b waiting info extension h.0 h.1 due h.2 b)
  where
    last_part : (a b c : Bool) → (a && (b && c)) ≡ true → c ≡ true
    last_part true true c e = e
    last_part true false c e = absurd cc
    last_part false b c e = absurd cc

    swapped : (n : ℕ) → nat_eq n 3 ≡ false → nat_eq 3 n ≡ false
    swapped n e = elim (cases_Bool (nat_eq 3 n)) [
      | inl on ↦ absurd (both_ways (nat_eq n 3) e (subst (λ (m : ℕ). nat_eq m 3 ≡ true) (eqb-true 3 n on) refl))
      | inr off ↦ off
    ]

    not_three : (before kind : ℕ) → is_b before ≡ false → is_b kind ≡ true → may_follow before kind ≡ true → ⊥
    not_three before kind anchor is_third may =
        let three : kind ≡ 3 = eqb-true kind 3 is_third in
        let h : (nat_eq 3 before || (nat_eq before 1 && false)) ≡ true = subst (λ (n : ℕ). may_follow before n ≡ true) three may in
        let off : nat_eq 3 before ≡ false = swapped before anchor in
        let g : (false || (nat_eq before 1 && false)) ≡ true = subst (λ (b : Bool). (b || (nat_eq before 1 && false)) ≡ true) off h in
        let z : false ≡ true = sym (and_false (nat_eq before 1)) ∙ g in
        absurd cc

    no_b : (waiting : Option FirstField) (info : PictureInfo) (extension : PictureExtension) (f : FirstField) → waiting ≡ Some f → is_second_field_due waiting info extension ≡ true → is_b f.kind ≡ false → is_b info.kind ≡ true → ⊥
    no_b None info extension f e due anchor is_third = absurd cc
    no_b (Some g) info extension f e due anchor is_third =
        let same : g ≡ f = cc in
        let may = last_part (not (is_frame extension)) (not (nat_eq extension.structure g.structure)) (may_follow g.kind info.kind) due in
        not_three f.kind info.kind anchor is_third (subst (λ (x : FirstField). may_follow x.kind info.kind ≡ true) same may)

pub early_references : (whole : ℕ) (waits b : Bool) (kind structure : ℕ) → is_b kind ≡ b → b ≡ false → nat_le 1 whole ≡ true → references_by whole waits kind structure ≡ references_by 1 waits kind structure
early_references whole waits true kind structure e off some = absurd cc
early_references whole waits false kind structure e off some = rw (e, some) refl

pub early_drops : (whole cut : ℕ) (group own b : Bool) (kind : ℕ) → is_b kind ≡ b → b ≡ false → drops_by whole group kind ≡ drops_by cut own kind
early_drops whole cut group own true kind e off = absurd cc
early_drops whole cut group own false kind e off = rw e refl

left_false : (changed b : Bool) (kind : ℕ) (two : Bool) → is_b kind ≡ b → b ≡ false → (changed && (is_b kind && not two)) ≡ false
left_false changed true kind two e off = absurd cc
left_false changed false kind two e off = rw e (and_false changed)

not_b : (kind : ℕ) → kind ≡ 1 → is_b kind ≡ false
not_b kind e = ap is_b e

begun_early : (fresh : Bool) (w c : State) (info : PictureInfo) (extension : PictureExtension) (b : Bool) → is_b info.kind ≡ b → w.waiting ≡ c.waiting → w.headers_only ≡ c.headers_only
    → c.anchors ≡ 1 → nat_le 1 w.anchors ≡ true → IsOpenGroup fresh c.closed_gop c.waiting → Fits true fresh c.anchors info.kind → is_second_field_due c.waiting info extension ≡ true → BegunAs (b && not (nat_le 2 1)) (opened w info extension) (opened c info extension)
begun_early fresh w c info extension true b waits headers one some own fits due =
    let closed = open_for_b fresh c.closed_gop c.waiting true info extension own (subst (λ (n : ℕ). Fits true fresh n info.kind) one fits) due b in
    let dropped : drops c info.kind ≡ true = ap (λ (n : ℕ). drops_by n c.closed_gop info.kind) one ∙ ap (λ (g : Bool). drops_by 1 g info.kind) closed ∙ ap (λ (x : Bool). x && true) b in
    record {
      info = refl;
      extension = refl;
      second = ap (λ (f : Option FirstField). is_some f) (sym waits);
      row = refl;
      has_slice = refl;
      dropped = dropped;
      unread = ap (λ (x : Bool). c.headers_only || x) dropped ∙ or_true c.headers_only;
      b = b;
    }
begun_early fresh w c info extension false b waits headers one some own fits due =
    same_begun w c info extension waits headers (early_drops w.anchors c.anchors w.closed_gop c.closed_gop false info.kind b refl)
    (ap (λ (f : Option FirstField). references_by w.anchors (is_some f) info.kind extension.structure) waits
    ∙ early_references w.anchors (is_some c.waiting) false info.kind extension.structure b refl some
    ∙ ap (λ (n : ℕ). references_by n (is_some c.waiting) info.kind extension.structure) (sym one))

pub begun : (ready changed fresh : Bool) (w c : State) (info : PictureInfo) (extension : PictureExtension) → w.waiting ≡ c.waiting → w.headers_only ≡ c.headers_only → ready ≡ true → Reaches ready changed fresh w c → Fits changed fresh c.anchors info.kind → is_second_field_due c.waiting info extension ≡ true
    → BegunAs (is_left_kind changed c.anchors info.kind) (opened w info extension) (opened c info extension)
begun ready changed fresh w c info extension waits headers is (as_whole off same closed) fits due =
    subst (λ (b : Bool). BegunAs (b && (is_b info.kind && not (nat_le 2 c.anchors))) (opened w info extension) (opened c info extension)) (sym off)
    (same_begun w c info extension waits headers
    (ap (λ (n : ℕ). drops_by n w.closed_gop info.kind) same ∙ ap (λ (g : Bool). drops_by c.anchors g info.kind) (closed is))
    (ap (λ (f : Option FirstField). references_by w.anchors (is_some f) info.kind extension.structure) waits ∙ ap (λ (n : ℕ). references_by n (is_some c.waiting) info.kind extension.structure) same))
begun ready changed fresh w c info extension waits headers is (none_yet on none own intra) fits due =
    let one = fits.first_intra on none in
    let other = not_b info.kind one in
    subst (λ (b : Bool). BegunAs b (opened w info extension) (opened c info extension)) (sym (left_false changed false info.kind (nat_le 2 c.anchors) other refl))
    (same_begun w c info extension waits headers (early_drops w.anchors c.anchors w.closed_gop c.closed_gop false info.kind other refl)
    (ap (λ (n : ℕ). references_by w.anchors (is_some w.waiting) n extension.structure) one ∙ ap (λ (n : ℕ). references_by c.anchors (is_some c.waiting) n extension.structure) (sym one)))
begun ready changed fresh w c info extension waits headers is (one_yet on one some own) fits due =
    let h = begun_early fresh w c info extension _ refl waits headers one some own (subst (λ (b : Bool). Fits b fresh c.anchors info.kind) on fits) due in
    subst (λ (b : Bool). BegunAs (b && (is_b info.kind && not (nat_le 2 c.anchors))) (opened w info extension) (opened c info extension)) (sym on)
    (subst (λ (n : ℕ). BegunAs (is_b info.kind && not (nat_le 2 n)) (opened w info extension) (opened c info extension)) (sym one) h)
begun ready changed fresh w c info extension waits headers is (two_both on two both) fits due =
    let off : is_left_kind changed c.anchors info.kind ≡ false = ap (λ (n : ℕ). changed && (is_b info.kind && not (nat_le 2 n))) two ∙ ap (λ (b : Bool). changed && b) (and_false (is_b info.kind)) ∙ and_false changed in
    let same = both ∙ sym two in
    subst (λ (b : Bool). BegunAs b (opened w info extension) (opened c info extension)) (sym off)
    (same_begun w c info extension waits headers
    (ap (λ (n : ℕ). drops_by n w.closed_gop info.kind) both ∙ ap (λ (n : ℕ). drops_by n c.closed_gop info.kind) (sym two))
    (ap (λ (f : Option FirstField). references_by w.anchors (is_some f) info.kind extension.structure) waits ∙ ap (λ (n : ℕ). references_by n (is_some c.waiting) info.kind extension.structure) same))

-- ---- the anchors behind it

-- the anchors behind a picture that ends its frame or doesn't, and is a B picture or isn't
abbrev pub anchors_by : Bool → Bool → ℕ → ℕ
anchors_by ends b anchors = if ends && not b then one_anchor_more anchors else anchors

abbrev pub waiting_by : Bool → PictureInfo → PictureExtension → Option FirstField
waiting_by ends info extension = if ends then None else Some (record { kind = info.kind; structure = extension.structure })

stays_two : (n : ℕ) → 2 ≤ n → one_anchor_more n ≡ 2
stays_two n le = rw (le-ltb n 2 le) refl

pub more_than_none : (n : ℕ) → nat_le 1 (one_anchor_more n) ≡ true
more_than_none zero = refl
more_than_none (suc zero) = refl
more_than_none (suc (suc n)) = ap (nat_le 1) (stays_two (suc (suc n)) (omega arith))

pub more_than_one : (n : ℕ) → nat_le 1 n ≡ true → one_anchor_more n ≡ 2
more_than_one zero e = absurd cc
more_than_one (suc zero) e = refl
more_than_one (suc (suc n)) e = stays_two (suc (suc n)) (omega arith)

no_waiting : (info : PictureInfo) (extension : PictureExtension) (f : FirstField) → waiting_by true info extension ≡ Some f → f.kind ≡ 1
no_waiting info extension f e = absurd cc

own_waiting : (info : PictureInfo) (extension : PictureExtension) (f : FirstField) → waiting_by false info extension ≡ Some f → f.kind ≡ info.kind
own_waiting info extension f e = let same : record { kind = info.kind; structure = extension.structure } ≡ f = cc in ap (λ (x : FirstField). x.kind) (sym same)

pub reached : (ready changed fresh ends b : Bool) (w c : State) (info : PictureInfo) (extension : PictureExtension) → is_b info.kind ≡ b → ready ≡ true → Reaches ready changed fresh w c → Fits changed fresh c.anchors info.kind → is_second_field_due c.waiting info extension ≡ true
    → Reach ready changed false (anchors_by ends b w.anchors) (anchors_by ends b c.anchors) w.closed_gop c.closed_gop (waiting_by ends info extension)
reached ready changed fresh ends b w c info extension e is (as_whole off same closed) fits due = as_whole off (ap (anchors_by ends b) same) closed
reached ready changed fresh ends true w c info extension e is (none_yet on none own intra) fits due = let wrong = sym e ∙ not_b info.kind (fits.first_intra on none) in absurd cc
reached ready changed fresh true false w c info extension e is (none_yet on none own intra) fits due = one_yet on (ap one_anchor_more none) (more_than_none w.anchors) (inl (own is))
reached ready changed fresh false false w c info extension e is (none_yet on none own intra) fits due = none_yet on none own (λ f waits. own_waiting info extension f waits ∙ fits.first_intra on none)
reached ready changed fresh true true w c info extension e is (one_yet on one some own) fits due =
    one_yet on one some (inl (open_for_b fresh c.closed_gop c.waiting changed info extension own (subst (λ (n : ℕ). Fits changed fresh n info.kind) one fits) due e))
reached ready changed fresh false true w c info extension e is (one_yet on one some own) fits due =
    one_yet on one some (inl (open_for_b fresh c.closed_gop c.waiting changed info extension own (subst (λ (n : ℕ). Fits changed fresh n info.kind) one fits) due e))
reached ready changed fresh true false w c info extension e is (one_yet on one some own) fits due = two_both on (ap one_anchor_more one) (more_than_one w.anchors some)
reached ready changed fresh false false w c info extension e is (one_yet on one some own) fits due = one_yet on one some (inr (inr (record { kind = info.kind; structure = extension.structure }, refl, e)))
reached ready changed fresh true true w c info extension e is (two_both on two both) fits due = two_both on two both
reached ready changed fresh false true w c info extension e is (two_both on two both) fits due = two_both on two both
reached ready changed fresh true false w c info extension e is (two_both on two both) fits due = two_both on (ap one_anchor_more two) (ap one_anchor_more both)
reached ready changed fresh false false w c info extension e is (two_both on two both) fits due = two_both on two both

-- behind a group header that both have
pub grouped : (ready changed fresh : Bool) (w c : State) (g : GroupInfo) → Reaches ready changed fresh w c → (ready ≡ true → changed ≡ true → c.anchors ≡ 0 → ⊥) → Reach ready changed true w.anchors c.anchors g.closed_gop g.closed_gop c.waiting
grouped ready changed fresh w c g (as_whole off same closed) some = as_whole off same (λ r. refl)
grouped ready changed fresh w c g (none_yet on none own intra) some = none_yet on none (λ r. absurd (some r on none)) intra
grouped ready changed fresh w c g (one_yet on one more own) some = one_yet on one more (inr (inl refl))
grouped ready changed fresh w c g (two_both on two both) some = two_both on two both

-- a picture of another type than I has a last anchor that both have
pub last_known : (ready changed fresh : Bool) (w c : State) (kind : ℕ) → Reaches ready changed fresh w c → Fits changed fresh c.anchors kind → ((not changed || nat_le 1 c.anchors) ≡ true) ⊎ (kind ≡ 1)
last_known ready changed fresh w c kind (as_whole off same closed) fits = inl (rw off refl)
last_known ready changed fresh w c kind (none_yet on none own intra) fits = inr (fits.first_intra on none)
last_known ready changed fresh w c kind (one_yet on one some own) fits = inl (rw (one, on) refl)
last_known ready changed fresh w c kind (two_both on two both) fits = inl (rw (two, on) refl)

-- the chosen group's header, which is changed in the cut or isn't
pub opened_group : (changed fresh : Bool) (w c : State) (g h : GroupInfo) → Reaches false changed fresh w c → (changed ≡ false → g.closed_gop ≡ h.closed_gop) → (changed ≡ true → h.closed_gop ≡ false)
    → Reach true changed true w.anchors c.anchors g.closed_gop h.closed_gop c.waiting
opened_group changed fresh w c g h (as_whole off same closed) kept is_open = as_whole off same (λ r. kept off)
opened_group changed fresh w c g h (none_yet on none own intra) kept is_open = none_yet on none (λ r. is_open on) intra
opened_group changed fresh w c g h (one_yet on one some own) kept is_open = one_yet on one some (inl (is_open on))
opened_group changed fresh w c g h (two_both on two both) kept is_open = two_both on two both
