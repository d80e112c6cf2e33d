-- One part more of the whole stream and of a cut.
use Rattle.std.proofs.Common.{◌≡◌, ℕ, Bool, true, false, List, [], ◌∷◌, ◌++◌, Option, Some, inl, inr, refl, sym, ap, subst, ◌∙◌, append-nil}
use Rattle.std.specs.Prelude.{is_some, ◌||◌}
use Rattle.m2v_model.specs.m2v_macroblock.m2v_head.declared.group.GroupInfo.{GroupInfo}
use Rattle.m2v_model.specs.m2v_macroblock.m2v_head.declared.picture.PictureInfo.{PictureInfo}
use Rattle.m2v_model.specs.m2v_macroblock.m2v_head.declared.picture.PictureExtension.{PictureExtension}
use Rattle.m2v_model.specs.declared.state.Sequence.{Sequence}
use Rattle.m2v_model.specs.declared.state.Open.{Open}
use Rattle.m2v_model.specs.declared.state.FirstField.{FirstField}
use Rattle.m2v_model.specs.declared.state.State.{State}
use Rattle.m2v_model.specs.States.{is_b, is_frame, is_second_field_due, opened, with_slice, with_unread_slice}
use Rattle.m2v_model.specs.Slices.{Slice, large_in}
use Rattle.m2v_model.specs.Streams.{Part, sequence, group, picture, matrices, slice, unread_slice, skipped_unit, after}
use Rattle.m2v_model.specs.Pictures.{Store, Pictures, Events, sequence_header, group_header, pictures_in, closed, picture_ended, picture_begun, told_by, store_after, sliced}
use Rattle.m2v_model.proofs.EventLaws.{pictures_in-append}
use Rattle.m2v_law_group.proofs.Shows.{AreBeside}
use Rattle.m2v_law_group.proofs.Alike.{IsLeftOut, OpenAlike, AreAlike, IsLeftSlice, PartsAlike, Knows, HasAnchor, after_alike}
use Rattle.m2v_law_group.proofs.Counted.{is_left_kind, Reaches, Reach, Fits, BegunAs, begun, anchors_by, waiting_by, reached, grouped, last_known, anchor_kept, opened_group}
use Rattle.m2v_law_group.proofs.Held.{AreHeld, rested, still_held, begin_held, closed_beside, slice_held, left_slice_held, unread_held}

-- the whole and the cut, behind the same parts; ready: the header of the chosen group is among them; fresh: no picture came since the last group header
pub record AreBoth (ready changed fresh : Bool) (k : ℕ) (w c : State) (sw sc : Store) : Type 0 where
  pub alike : AreAlike w c
  pub reach : Reaches ready changed fresh w c
  pub held : AreHeld changed k c.anchors c.waiting w.picture c.picture sw sc

-- the next part fits: a picture, and no group header before the cut's first anchor
abbrev pub FitsPart : Bool → Bool → Bool → State → Part → Type 0
FitsPart ready changed fresh c (group g) = ready ≡ true → changed ≡ true → c.anchors ≡ 0 → ⊥
FitsPart ready changed fresh c (picture info extension) = (ready ≡ true) × Fits changed fresh c.anchors info.kind
FitsPart ready changed fresh c _ = Unit {0}

-- no picture came since the last group header, behind a part
abbrev pub fresh_after : Bool → Part → Bool
fresh_after fresh (group g) = true
fresh_after fresh (picture info extension) = false
fresh_after fresh _ = fresh

-- the anchor that a picture needs in the cut
pub anchor_there : (ready changed fresh : Bool) (k : ℕ) (w c : State) (sw sc : Store) (p : Part) → AreBoth ready changed fresh k w c sw sc → FitsPart ready changed fresh c p → Knows w p → HasAnchor c p
anchor_there ready changed fresh k w c sw sc (picture info extension) b f known = anchor_kept ready changed fresh w c info (b.alike).waiting b.reach f.1 known.1
anchor_there ready changed fresh k w c sw sc _ b f known = tt

-- what is told of a part in both, before what is told behind it
abbrev pub ToldBeside : Bool → ℕ → ℕ → Events → Events → Type 0
ToldBeside changed k next es fs = (ps qs : Pictures) → AreBeside changed next ps qs → AreBeside changed k (pictures_in es ++ ps) (pictures_in fs ++ qs)

-- both behind a part
pub record Stepped (ready changed fresh : Bool) (k : ℕ) (w c : State) (sw sc : Store) (p q : Part) : Type 0 where
  pub next : ℕ
  pub both : AreBoth ready changed (fresh_after fresh p) next (after w p) (after c q) (store_after w sw p) (store_after c sc q)
  pub told : ToldBeside changed k next (told_by w sw p) (told_by c sc q)

-- ---- part by part

pub told_none : (changed : Bool) (k : ℕ) → ToldBeside changed k k [] []
told_none changed k ps qs h = h

pub closes_told : (changed : Bool) (k : ℕ) (w c : State) (sw sc : Store) → AreHeld changed k c.anchors c.waiting w.picture c.picture sw sc → ToldBeside changed k c.anchors (closed w.picture sw) (closed c.picture sc)
closes_told changed k w c sw sc h ps qs b = closed_beside changed k c.anchors c.waiting w.picture c.picture sw sc h ps qs b

-- an event that is no picture, behind the picture that is open
pub told_more : (changed : Bool) (k next : ℕ) (es fs ds gs : Events) → pictures_in ds ≡ [] → pictures_in gs ≡ [] → ToldBeside changed k next es fs → ToldBeside changed k next (es ++ ds) (fs ++ gs)
told_more changed k next es fs ds gs d g h ps qs b =
    let left : pictures_in (es ++ ds) ≡ pictures_in es = pictures_in-append es ds ∙ ap (λ (l : Pictures). pictures_in es ++ l) d ∙ append-nil (pictures_in es) in
    let right : pictures_in (fs ++ gs) ≡ pictures_in fs = pictures_in-append fs gs ∙ ap (λ (l : Pictures). pictures_in fs ++ l) g ∙ append-nil (pictures_in fs) in
    subst (λ (l : Pictures). AreBeside changed k (l ++ ps) (pictures_in (fs ++ gs) ++ qs)) (sym left) (subst (λ (l : Pictures). AreBeside changed k (pictures_in es ++ ps) (l ++ qs)) (sym right) (h ps qs b))

begin_alike : (changed : Bool) (w c : State) (info : PictureInfo) (extension : PictureExtension) (left : Bool) → BegunAs left (opened w info extension) (opened c info extension) → OpenAlike (Some (opened w info extension)) (Some (opened c info extension))
begin_alike changed w c info extension true h = inr h
begin_alike changed w c info extension false h = inl h

pub linked : (ends : Bool) (info : PictureInfo) (extension : PictureExtension) (f : FirstField) → waiting_by ends info extension ≡ Some f → f.kind ≡ info.kind
linked true info extension f e = absurd cc
linked false info extension f e = let same : record { kind = info.kind; structure = extension.structure } ≡ f = cc in ap (λ (x : FirstField). x.kind) (sym same)

picture_steps : (ready changed fresh : Bool) (k : ℕ) (w c : State) (sw sc : Store) (info : PictureInfo) (extension : PictureExtension) → AreBoth ready changed fresh k w c sw sc → (ready ≡ true) × Fits changed fresh c.anchors info.kind → Knows w (picture info extension)
    → Stepped ready changed fresh k w c sw sc (picture info extension) (picture info extension)
unfolding after
picture_steps ready changed fresh k w c sw sc info extension b f known =
    let a = b.alike in
    let due : is_second_field_due c.waiting info extension ≡ true = ap (λ (x : Option FirstField). is_second_field_due x info extension) (sym a.waiting) ∙ known.0 in
    let begins = begun ready changed fresh w c info extension a.waiting a.headers f.0 b.reach f.1 due in
    let ends = is_frame extension || is_some c.waiting in
    let r = rested changed k c.anchors c.waiting w.picture c.picture sw sc b.held in
    let last = last_known ready changed fresh w c info.kind b.reach f.1 in
    let held = begin_held changed w c info extension c.sequence (picture_ended w.picture sw) (picture_ended c.picture sc) a.known a.waiting due begins last r (waiting_by ends info extension) (linked ends info extension) in
    let reach = reached ready changed fresh ends (is_b info.kind) w c info extension refl f.0 b.reach f.1 due in
    record {
      next = c.anchors;
      both = record {
        alike = after_alike w c [] (picture info extension) (picture info extension) a (begin_alike changed w c info extension (is_left_kind changed c.anchors info.kind) begins) (inl refl);
        reach = subst (λ (x : Option FirstField). Reach ready changed false (anchors_by (is_frame extension || is_some x) (is_b info.kind) w.anchors) (anchors_by ends (is_b info.kind) c.anchors) w.closed_gop c.closed_gop (waiting_by ends info extension)) (sym a.waiting) reach;
        held = subst (λ (s : Option Sequence). AreHeld changed c.anchors (anchors_by ends (is_b info.kind) c.anchors) (waiting_by ends info extension) (Some (opened w info extension)) (Some (opened c info extension)) (picture_begun s (opened w info extension) (picture_ended w.picture sw)) (picture_begun c.sequence (opened c info extension) (picture_ended c.picture sc))) (sym a.sequence) held;
      };
      told = closes_told changed k w c sw sc b.held;
    }

same_steps : (ready changed fresh : Bool) (k : ℕ) (w c : State) (sw sc : Store) (p : Part) → AreBoth ready changed fresh k w c sw sc → FitsPart ready changed fresh c p → Knows w p → Stepped ready changed fresh k w c sw sc p p
unfolding after
same_steps ready changed fresh k w c sw sc (sequence s) b f known = record {
  next = c.anchors;
  both = record {
    alike = after_alike w c [] (sequence s) (sequence s) b.alike tt (inl refl);
    reach = b.reach;
    held = still_held changed c.anchors c.waiting _ _ (rested changed k c.anchors c.waiting w.picture c.picture sw sc b.held);
  };
  told = told_more changed k c.anchors (closed w.picture sw) (closed c.picture sc) (sequence_header s ∷ []) (sequence_header s ∷ []) refl refl (closes_told changed k w c sw sc b.held);
}
same_steps ready changed fresh k w c sw sc (group g) b f known = record {
  next = c.anchors;
  both = record {
    alike = after_alike w c [] (group g) (group g) b.alike tt (inl refl);
    reach = grouped ready changed fresh w c g b.reach f;
    held = still_held changed c.anchors c.waiting _ _ (rested changed k c.anchors c.waiting w.picture c.picture sw sc b.held);
  };
  told = told_more changed k c.anchors (closed w.picture sw) (closed c.picture sc) (group_header g ∷ []) (group_header g ∷ []) refl refl (closes_told changed k w c sw sc b.held);
}
same_steps ready changed fresh k w c sw sc (picture info extension) b f known = picture_steps ready changed fresh k w c sw sc info extension b f known
same_steps ready changed fresh k w c sw sc (matrices m) b f known = record {
  next = k;
  both = record { alike = after_alike w c [] (matrices m) (matrices m) b.alike tt (inl refl); reach = b.reach; held = b.held };
  told = told_none changed k;
}
same_steps ready changed fresh k w c sw sc (slice row x) b f known =
    let a = b.alike in
    let held = slice_held changed k w c c.sequence w.picture c.picture row x x.covered (large_in x) sw sc a a.known b.held (λ t o st so one. known t o (a.sequence ∙ st) so one) in
    record {
      next = k;
      both = record {
        alike = after_alike w c [] (slice row x) (slice row x) a tt (inl refl);
        reach = b.reach;
        held = subst (λ (s : Option Sequence). AreHeld changed k c.anchors c.waiting (with_slice w.picture row x.covered (large_in x)) (with_slice c.picture row x.covered (large_in x)) (sliced w s w.picture row x sw) (sliced c c.sequence c.picture row x sc)) (sym a.sequence) held;
      };
      told = told_none changed k;
    }
same_steps ready changed fresh k w c sw sc (unread_slice row u) b f known = record {
  next = k;
  both = record { alike = after_alike w c [] (unread_slice row u) (unread_slice row u) b.alike tt (inl refl); reach = b.reach; held = unread_held changed k c.anchors c.waiting w.picture c.picture row sw sc b.held };
  told = told_none changed k;
}
same_steps ready changed fresh k w c sw sc (skipped_unit u) b f known = record { next = k; both = b; told = told_none changed k }
same_steps ready changed fresh k w c sw sc p b f known = record {
  next = c.anchors;
  both = record {
    alike = after_alike w c [] p p b.alike tt (inl refl);
    reach = b.reach;
    held = still_held changed c.anchors c.waiting _ _ (rested changed k c.anchors c.waiting w.picture c.picture sw sc b.held);
  };
  told = closes_told changed k w c sw sc b.held;
}

-- a picture that is left out isn't that of the whole, where that one's slices are read
not_same : (p q : Open) → IsLeftOut p q → p.slices_unread ≡ false → p ≡ q → ⊥
not_same p q l read same = let wrong = sym read ∙ ap (λ (o : Open). o.slices_unread) same ∙ l.unread in absurd cc

held_back : (changed : Bool) (k : ℕ) (w c : State) (row : ℕ) (x : Slice) (sw sc : Store) (own other : Open) → w.picture ≡ Some own → c.picture ≡ Some other
    → AreHeld changed k c.anchors c.waiting (with_slice (Some own) row x.covered (large_in x)) (with_unread_slice (Some other) row) (sliced w w.sequence (Some own) row x sw) sc
    → AreHeld changed k c.anchors c.waiting (with_slice w.picture row x.covered (large_in x)) (with_unread_slice c.picture row) (sliced w w.sequence w.picture row x sw) sc
held_back changed k w c row x sw sc own other own_is other_is held =
    subst (λ (y : Option Open). AreHeld changed k c.anchors c.waiting (with_slice y row x.covered (large_in x)) (with_unread_slice c.picture row) (sliced w w.sequence y row x sw) sc) (sym own_is)
    (subst (λ (y : Option Open). AreHeld changed k c.anchors c.waiting (with_slice (Some own) row x.covered (large_in x)) (with_unread_slice y row) (sliced w w.sequence (Some own) row x sw) sc) (sym other_is) held)

left_slice_steps : (ready changed fresh : Bool) (k : ℕ) (w c : State) (sw sc : Store) (u : List ℕ) (row : ℕ) (x : Slice) (own other : Open) → w.picture ≡ Some own → c.picture ≡ Some other → IsLeftOut own other → own.slices_unread ≡ false
    → AreBoth ready changed fresh k w c sw sc → Stepped ready changed fresh k w c sw sc (slice row x) (unread_slice row u)
unfolding after
left_slice_steps ready changed fresh k w c sw sc u row x own other own_is other_is left read b =
    let a = b.alike in
    let l : IsLeftSlice w c u (slice row x) (unread_slice row u) = record { row = row; x = x; own = own; other = other; whole = refl; cut = refl; own_is = own_is; other_is = other_is; left = left; read = read } in
    let before : AreHeld changed k c.anchors c.waiting (Some own) (Some other) sw sc = subst (λ (y : Option Open). AreHeld changed k c.anchors c.waiting y (Some other) sw sc) own_is (subst (λ (y : Option Open). AreHeld changed k c.anchors c.waiting w.picture y sw sc) other_is b.held) in
    let held = left_slice_held changed k w c.waiting c.anchors w.sequence own other row x x.covered (large_in x) sw sc left (not_same own other left read) before in
    record {
      next = k;
      both = record {
        alike = after_alike w c u (slice row x) (unread_slice row u) a tt (inr l);
        reach = b.reach;
        held = held_back changed k w c row x sw sc own other own_is other_is held;
      };
      told = told_none changed k;
    }

pub steps : (ready changed fresh : Bool) (k : ℕ) (w c : State) (sw sc : Store) (u : List ℕ) (p q : Part) → AreBoth ready changed fresh k w c sw sc → FitsPart ready changed fresh c p → Knows w p → PartsAlike w c u p q → Stepped ready changed fresh k w c sw sc p q
steps ready changed fresh k w c sw sc u p q b f known (inl same) = subst (λ (y : Part). Stepped ready changed fresh k w c sw sc p y) (sym same) (same_steps ready changed fresh k w c sw sc p b f known)
steps ready changed fresh k w c sw sc u p q b f known (inr l) =
    subst (λ (y : Part). Stepped ready changed fresh k w c sw sc y q) (sym l.whole)
    (subst (λ (y : Part). Stepped ready changed fresh k w c sw sc (slice l.row l.x) y) (sym l.cut)
    (left_slice_steps ready changed fresh k w c sw sc u l.row l.x l.own l.other l.own_is l.other_is l.left l.read b))

-- behind the header of the chosen group
pub group_both : (changed fresh : Bool) (k : ℕ) (w c : State) (sw sc : Store) (g h : GroupInfo) → AreBoth false changed fresh k w c sw sc → (changed ≡ false → g.closed_gop ≡ h.closed_gop) → (changed ≡ true → h.closed_gop ≡ false)
    → AreBoth true changed true c.anchors (after w (group g)) (after c (group h)) (store_after w sw (group g)) (store_after c sc (group h))
unfolding after
group_both changed fresh k w c sw sc g h b kept is_open =
    let a = b.alike in
    record {
      alike = record { first = a.first; known = a.known; sequence = a.sequence; intra = a.intra; non_intra = a.non_intra; waiting = a.waiting; headers = a.headers; pictures = tt };
      reach = opened_group changed fresh w c g h b.reach kept is_open;
      held = still_held changed c.anchors c.waiting _ _ (rested changed k c.anchors c.waiting w.picture c.picture sw sc b.held);
    }
