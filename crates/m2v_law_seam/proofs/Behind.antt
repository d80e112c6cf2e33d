-- A strand behind another one, and the same strand by itself: the states and the frames at hand, part by part.
use Rattle.std.proofs.Common.{◌≡◌, ℕ, Bool, true, false, [], ◌∷◌, Option, Some, None, ◌⊎◌, inl, inr, refl, sym, ap, subst, ◌∙◌}
use Rattle.std.specs.Prelude.{nat_eq, nat_le, is_some, not, ◌&&◌, ◌||◌}
use Rattle.m2v_model.specs.m2v_macroblock.m2v_head.declared.picture.PictureInfo.{PictureInfo}
use Rattle.m2v_model.specs.m2v_macroblock.m2v_head.declared.picture.PictureExtension.{PictureExtension}
use Rattle.m2v_model.specs.declared.setup.SliceSetup.{SliceSetup}
use Rattle.m2v_model.specs.declared.state.Sequence.{Sequence}
use Rattle.m2v_model.specs.declared.state.Open.{Open}
use Rattle.m2v_model.specs.declared.state.FirstField.{FirstField}
use Rattle.m2v_model.specs.declared.state.State.{State}
use Rattle.m2v_model.specs.States.{is_b, is_frame, has_anchor, is_same_sequence, opened, one_anchor_more, slice_setup, with_slice, with_unread_slice}
use Rattle.m2v_model.specs.Slices.{Slice, large_in, slice_start}
use Rattle.m2v_model.specs.Streams.{Part, sequence, group, picture, matrices, slice, unread_slice, skipped_unit, after}
use Rattle.m2v_model.specs.Pictures.{Store, sequence_header, group_header, closed, picture_ended, picture_begun, told_by, store_after, sliced}
use Rattle.m2v_law_group.proofs.Intra.{AreStill}
use Rattle.m2v_law_group.proofs.Alike.{OpenAlike, AreAlike, Knows, HasAnchor, setup_same, after_alike}
use Rattle.m2v_law_group.proofs.Counted.{is_left_kind, BegunAs, or_true, same_begun, drops_by, references_by, early_drops, early_references, anchors_by, waiting_by, more_than_none, more_than_one}
use Rattle.m2v_law_group.proofs.Held.{AreHeld, rested, still_held, begin_held, slice_held, unread_held}
use Rattle.m2v_law_group.proofs.Steps.{ToldBeside, told_none, closes_told, told_more, linked}
use Rattle.m2v_law_group.proofs.Tens.{first_stays}

-- ---- anchors

-- the anchors of the strand in its place, and by itself: in place there are as many at least, and both have two in the end
pub data Reached (place alone : ℕ) : Type 0 where
  none_yet : alone ≡ 0 → Reached place alone
  one_yet : alone ≡ 1 → nat_le 1 place ≡ true → Reached place alone
  two_both : alone ≡ 2 → place ≡ 2 → Reached place alone

-- a picture that may stand in a strand, by its type
pub record Stands (anchors kind : ℕ) : Type 0 where
  pub intra : anchors ≡ 0 → kind ≡ 1
  pub kept : is_left_kind true anchors kind ≡ false

and_true : (b : Bool) → (b && true) ≡ false → b ≡ false
and_true true e = absurd cc
and_true false e = refl

-- behind one anchor no B picture stands
none_b : (anchors kind : ℕ) → anchors ≡ 1 → is_left_kind true anchors kind ≡ false → is_b kind ≡ false
none_b anchors kind one kept = and_true (is_b kind) (subst (λ (n : ℕ). (is_b kind && not (nat_le 2 n)) ≡ false) one kept)

opened_same : (w c : State) (info : PictureInfo) (extension : PictureExtension) → w.waiting ≡ c.waiting → w.headers_only ≡ c.headers_only → Reached w.anchors c.anchors → Stands c.anchors info.kind → opened w info extension ≡ opened c info extension
opened_same w c info extension waits headers (none_yet none) s =
    let one = s.intra none in
    same_begun w c info extension waits headers (early_drops w.anchors c.anchors w.closed_gop c.closed_gop false info.kind (ap is_b one) refl)
    (ap (λ (n : ℕ). references_by w.anchors (is_some w.waiting) n extension.structure) one ∙ ap (λ (n : ℕ). references_by c.anchors (is_some c.waiting) n extension.structure) (sym one))
opened_same w c info extension waits headers (one_yet one some) s =
    let other = none_b c.anchors info.kind one s.kept in
    same_begun w c info extension waits headers (early_drops w.anchors c.anchors w.closed_gop c.closed_gop false info.kind other refl)
    (ap (λ (f : Option FirstField). references_by w.anchors (is_some f) info.kind extension.structure) waits
    ∙ early_references w.anchors (is_some c.waiting) false info.kind extension.structure other refl some
    ∙ ap (λ (n : ℕ). references_by n (is_some c.waiting) info.kind extension.structure) (sym one))
opened_same w c info extension waits headers (two_both two both) s =
    same_begun w c info extension waits headers
    (ap (λ (n : ℕ). drops_by n w.closed_gop info.kind) both ∙ ap (λ (n : ℕ). drops_by n c.closed_gop info.kind) (sym two))
    (ap (λ (f : Option FirstField). references_by w.anchors (is_some f) info.kind extension.structure) waits ∙ ap (λ (n : ℕ). references_by n (is_some c.waiting) info.kind extension.structure) (both ∙ sym two))

-- the anchors behind it
reached_on : (ends b : Bool) (place alone kind : ℕ) → is_b kind ≡ b → Reached place alone → Stands alone kind → Reached (anchors_by ends b place) (anchors_by ends b alone)
reached_on ends true place alone kind e (none_yet none) s = let wrong = sym e ∙ ap is_b (s.intra none) in absurd cc
reached_on true false place alone kind e (none_yet none) s = one_yet (ap one_anchor_more none) (more_than_none place)
reached_on false false place alone kind e (none_yet none) s = none_yet none
reached_on true true place alone kind e (one_yet one some) s = one_yet one some
reached_on false true place alone kind e (one_yet one some) s = one_yet one some
reached_on true false place alone kind e (one_yet one some) s = two_both (ap one_anchor_more one) (more_than_one place some)
reached_on false false place alone kind e (one_yet one some) s = one_yet one some
reached_on true true place alone kind e (two_both two both) s = two_both two both
reached_on false true place alone kind e (two_both two both) s = two_both two both
reached_on true false place alone kind e (two_both two both) s = two_both (ap one_anchor_more two) (ap one_anchor_more both)
reached_on false false place alone kind e (two_both two both) s = two_both two both

-- a P picture has its anchor in place too
anchor_again : (w c : State) (info : PictureInfo) → Reached w.anchors c.anchors → Stands c.anchors info.kind → has_anchor w info ≡ true
anchor_again w c info (none_yet none) s = subst (λ (n : ℕ). (not (nat_eq n 2) || (is_some w.waiting || nat_le 1 w.anchors)) ≡ true) (sym (s.intra none)) refl
anchor_again w c info (one_yet one some) s = rw (some, or_true (is_some w.waiting)) (or_true (not (nat_eq info.kind 2)))
anchor_again w c info (two_both two both) s = subst (λ (n : ℕ). (not (nat_eq info.kind 2) || (is_some w.waiting || nat_le 1 n)) ≡ true) (sym both) (rw (or_true (is_some w.waiting)) (or_true (not (nat_eq info.kind 2))))

-- the last anchor is the strand's own, but for I pictures, which need none
last_own : (place alone kind : ℕ) → Reached place alone → Stands alone kind → ((not true || nat_le 1 alone) ≡ true) ⊎ (kind ≡ 1)
last_own place alone kind (none_yet none) s = inr (s.intra none)
last_own place alone kind (one_yet one some) s = inl (ap (nat_le 1) one)
last_own place alone kind (two_both two both) s = inl (ap (nat_le 1) two)

-- ---- both

pub open_same : (a b : Option Open) → a ≡ b → OpenAlike a b
open_same a b e = subst (OpenAlike a) e (one_alike a)
  where
    one_alike : (o : Option Open) → OpenAlike o o
    one_alike None = tt
    one_alike (Some x) = inl refl

-- the strand in its place, and by itself, behind the same parts; f and g are the first sequence headers
pub record AreSeamed (f g : Sequence) (k : ℕ) (w c : State) (sw sc : Store) : Type 0 where
  pub alike : AreAlike w c
  pub whole : w.first ≡ Some f
  pub alone : c.first ≡ Some g
  pub same : w.picture ≡ c.picture
  pub reach : Reached w.anchors c.anchors
  pub held : AreHeld true k c.anchors c.waiting w.picture c.picture sw sc

-- where what the second header says the first one says, sides can be exchanged
pub turned : (f g : Sequence) (k : ℕ) (w c : State) (sw sc : Store) → ((s : Sequence) → is_same_sequence (Some g) s ≡ true → is_same_sequence (Some f) s ≡ true) → AreSeamed f g k w c sw sc → AreAlike c w
turned f g k w c sw sc back b =
    let a = b.alike in
    record {
      first = record { first_whole = g; first_cut = f; whole = b.alone; cut = b.whole; firsts = back };
      known = ap is_some a.sequence ∙ a.known;
      sequence = sym a.sequence;
      intra = sym a.intra;
      non_intra = sym a.non_intra;
      waiting = sym a.waiting;
      headers = sym a.headers;
      pictures = open_same c.picture w.picture (sym b.same);
    }

-- the next part may stand there
abbrev pub StandsPart : State → Part → Type 0
StandsPart c (picture info extension) = Stands c.anchors info.kind
StandsPart c _ = Unit {0}

pub has_anchor_again : (w c : State) (p : Part) → Reached w.anchors c.anchors → StandsPart c p → HasAnchor w p
has_anchor_again w c (picture info extension) r h = anchor_again w c info r h
has_anchor_again w c _ r h = tt

-- ---- part by part

-- both behind a part
pub record SeamedOn (f g : Sequence) (k : ℕ) (w c : State) (sw sc : Store) (p : Part) : Type 0 where
  pub next : ℕ
  pub both : AreSeamed f g next (after w p) (after c p) (store_after w sw p) (store_after c sc p)
  pub told : ToldBeside true k next (told_by w sw p) (told_by c sc p)

picture_on : (f g : Sequence) (k : ℕ) (w c : State) (sw sc : Store) (info : PictureInfo) (extension : PictureExtension) → AreSeamed f g k w c sw sc → Stands c.anchors info.kind → Knows c (picture info extension) → SeamedOn f g k w c sw sc (picture info extension)
unfolding after
picture_on f g k w c sw sc info extension b s known =
    let a = b.alike in
    let p = picture info extension in
    let begins = opened_same w c info extension a.waiting a.headers b.reach s in
    let left : BegunAs (is_left_kind true c.anchors info.kind) (opened w info extension) (opened c info extension) = subst (λ (x : Bool). BegunAs x (opened w info extension) (opened c info extension)) (sym s.kept) begins in
    let ends = is_frame extension || is_some c.waiting in
    let r = rested true k c.anchors c.waiting w.picture c.picture sw sc b.held in
    let last = last_own w.anchors c.anchors info.kind b.reach s in
    let held = begin_held true w c info extension c.sequence (picture_ended w.picture sw) (picture_ended c.picture sc) a.known a.waiting known.0 left last r (waiting_by ends info extension) (linked ends info extension) in
    let reach = reached_on ends (is_b info.kind) w.anchors c.anchors info.kind refl b.reach s in
    record {
      next = c.anchors;
      both = record {
        alike = after_alike w c [] p p a (open_same (Some (opened w info extension)) (Some (opened c info extension)) (ap Some begins)) (inl refl);
        whole = first_stays w p f b.whole;
        alone = first_stays c p g b.alone;
        same = ap Some begins;
        reach = subst (λ (x : Option FirstField). Reached (anchors_by (is_frame extension || is_some x) (is_b info.kind) w.anchors) (anchors_by ends (is_b info.kind) c.anchors)) (sym a.waiting) reach;
        held = subst (λ (s : Option Sequence). AreHeld true c.anchors (anchors_by ends (is_b info.kind) c.anchors) (waiting_by ends info extension) (Some (opened w info extension)) (Some (opened c info extension)) (picture_begun s (opened w info extension) (picture_ended w.picture sw)) (picture_begun c.sequence (opened c info extension) (picture_ended c.picture sc))) (sym a.sequence) held;
      };
      told = closes_told true k w c sw sc b.held;
    }

-- the macroblocks of a slice of an I picture, in place
still_again : (w c : State) (row : ℕ) (x : Slice) (t : Sequence) (o : Open) → AreAlike w c → w.picture ≡ c.picture → Knows c (slice row x) → c.sequence ≡ Some t → w.picture ≡ Some o → o.info.kind ≡ 1
    → AreStill (slice_setup w t o) (slice_start (slice_setup w t o).context row o.covered x.info.quantiser) x.macroblocks
still_again w c row x t o a same known st so one =
    subst (λ (e : SliceSetup). AreStill e (slice_start e.context row o.covered x.info.quantiser) x.macroblocks) (sym (setup_same w c t o a)) (known t o st (sym same ∙ so) one)

pub seamed_on : (f g : Sequence) (k : ℕ) (w c : State) (sw sc : Store) (p : Part) → AreSeamed f g k w c sw sc → StandsPart c p → Knows c p → SeamedOn f g k w c sw sc p
unfolding after
seamed_on f g k w c sw sc (sequence s) b h known = record {
  next = c.anchors;
  both = record {
    alike = after_alike w c [] (sequence s) (sequence s) b.alike tt (inl refl);
    whole = first_stays w (sequence s) f b.whole;
    alone = first_stays c (sequence s) g b.alone;
    same = refl;
    reach = b.reach;
    held = still_held true c.anchors c.waiting _ _ (rested true k c.anchors c.waiting w.picture c.picture sw sc b.held);
  };
  told = told_more true k c.anchors (closed w.picture sw) (closed c.picture sc) (sequence_header s ∷ []) (sequence_header s ∷ []) refl refl (closes_told true k w c sw sc b.held);
}
seamed_on f g k w c sw sc (group i) b h known = record {
  next = c.anchors;
  both = record {
    alike = after_alike w c [] (group i) (group i) b.alike tt (inl refl);
    whole = b.whole;
    alone = b.alone;
    same = refl;
    reach = b.reach;
    held = still_held true c.anchors c.waiting _ _ (rested true k c.anchors c.waiting w.picture c.picture sw sc b.held);
  };
  told = told_more true k c.anchors (closed w.picture sw) (closed c.picture sc) (group_header i ∷ []) (group_header i ∷ []) refl refl (closes_told true k w c sw sc b.held);
}
seamed_on f g k w c sw sc (picture info extension) b h known = picture_on f g k w c sw sc info extension b h known
seamed_on f g k w c sw sc (matrices m) b h known = record {
  next = k;
  both = record { alike = after_alike w c [] (matrices m) (matrices m) b.alike tt (inl refl); whole = b.whole; alone = b.alone; same = b.same; reach = b.reach; held = b.held };
  told = told_none true k;
}
seamed_on f g k w c sw sc (slice row x) b h known =
    let a = b.alike in
    let held = slice_held true k w c c.sequence w.picture c.picture row x x.covered (large_in x) sw sc a a.known b.held (λ t o st so one. still_again w c row x t o a b.same known st so one) in
    record {
      next = k;
      both = record {
        alike = after_alike w c [] (slice row x) (slice row x) a tt (inl refl);
        whole = b.whole;
        alone = b.alone;
        same = ap (λ (o : Option Open). with_slice o row x.covered (large_in x)) b.same;
        reach = b.reach;
        held = subst (λ (s : Option Sequence). AreHeld true k c.anchors c.waiting (with_slice w.picture row x.covered (large_in x)) (with_slice c.picture row x.covered (large_in x)) (sliced w s w.picture row x sw) (sliced c c.sequence c.picture row x sc)) (sym a.sequence) held;
      };
      told = told_none true k;
    }
seamed_on f g k w c sw sc (unread_slice row u) b h known = record {
  next = k;
  both = record {
    alike = after_alike w c [] (unread_slice row u) (unread_slice row u) b.alike tt (inl refl);
    whole = b.whole;
    alone = b.alone;
    same = ap (λ (o : Option Open). with_unread_slice o row) b.same;
    reach = b.reach;
    held = unread_held true k c.anchors c.waiting w.picture c.picture row sw sc b.held;
  };
  told = told_none true k;
}
seamed_on f g k w c sw sc (skipped_unit u) b h known = record { next = k; both = b; told = told_none true k }
seamed_on f g k w c sw sc p b h known = record {
  next = c.anchors;
  both = record {
    alike = after_alike w c [] p p b.alike tt (inl refl);
    whole = b.whole;
    alone = b.alone;
    same = refl;
    reach = b.reach;
    held = still_held true c.anchors c.waiting _ _ (rested true k c.anchors c.waiting w.picture c.picture sw sc b.held);
  };
  told = closes_told true k w c sw sc b.held;
}
