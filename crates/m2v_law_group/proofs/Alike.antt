-- A unit is read behind a cut as in the whole stream; but slices of a picture that is left out stay unread.
use Rattle.std.proofs.Common.{◌≡◌, ℕ, Bool, true, false, List, Option, Some, None, ◌⊎◌, inl, inr, refl, sym, ap, subst, ◌∙◌}
use Rattle.std.specs.Prelude.{nat_eq, nat_lt, nat_le, is_some, not, ◌&&◌, ◌-◌}
use Rattle.std.proofs.lemmas.Bool.{eqb-true}
use Rattle.m2v_bits.specs.Syntax.{done, seq, rule, choose}
use Rattle.m2v_model.specs.m2v_macroblock.m2v_head.declared.picture.PictureExtension.{PictureExtension}
use Rattle.m2v_model.specs.declared.setup.SliceSetup.{SliceSetup}
use Rattle.m2v_model.specs.declared.state.Sequence.{Sequence}
use Rattle.m2v_model.specs.declared.state.Open.{Open}
use Rattle.m2v_model.specs.declared.state.FirstField.{FirstField}
use Rattle.m2v_model.specs.declared.state.State.{State}
use Rattle.m2v_model.specs.declared.fault.FaultKind.{FaultKind}
use Rattle.m2v_model.specs.declared.fault.FaultKind.TheVariants.{SliceOrder}
use Rattle.m2v_model.specs.Units.{Units, body, inside}
use Rattle.m2v_model.specs.Looking.{refuse}
use Rattle.m2v_model.specs.Headers.{whole_header, picture_extension_in}
use Rattle.m2v_model.specs.Slices.{Slice, slice_at, slice_start, large_in}
use Rattle.m2v_model.specs.States.{is_b, picture_rows, is_complete, takes_matrices, is_same_sequence, is_progressive, none_waits, is_second_field_due, has_anchor, opened, slice_setup, first_or, loaded_or, with_slice, with_unread_slice}
use Rattle.m2v_model.specs.Streams.{Part, Among, sequence, group, picture, matrices, slice, unread_slice, skipped_unit, ending, over, after, close, no_second_field_due, extension_behind, sequence_unit, group_unit, picture_unit, matrix_unit, extension_unit, read_slice, slice_in, slice_unit, end_unit, onward, final, later_unit, known_unit}
use Rattle.m2v_law_group.proofs.Intra.{AreStill, slice_still}

-- ---- states

-- the picture that is open in the cut is the one of the whole, a B picture, but it is left out
pub record IsLeftOut (p q : Open) : Type 0 where
  pub info : q.info ≡ p.info
  pub extension : q.extension ≡ p.extension
  pub second : q.second_field ≡ p.second_field
  pub row : q.row ≡ p.row
  pub has_slice : q.has_slice ≡ p.has_slice
  pub dropped : q.dropped ≡ true
  pub unread : q.slices_unread ≡ true
  pub b : is_b p.info.kind ≡ true

abbrev pub OpenAlike : Option Open → Option Open → Type 0
OpenAlike None None = Unit {0}
OpenAlike None (Some q) = ⊥
OpenAlike (Some p) None = ⊥
OpenAlike (Some p) (Some q) = (p ≡ q) ⊎ IsLeftOut p q

-- the first sequence headers of the whole and of the cut: what follows the one may follow the other
pub record FirstsAlike (w c : Option Sequence) : Type 0 where
  pub first_whole : Sequence
  pub first_cut : Sequence
  pub whole : w ≡ Some first_whole
  pub cut : c ≡ Some first_cut
  pub firsts : (s : Sequence) → is_same_sequence (Some first_whole) s ≡ true → is_same_sequence (Some first_cut) s ≡ true

-- states of the whole and of the cut, but for their anchors and what the last group header says
pub record AreAlike (w c : State) : Type 0 where
  pub first : FirstsAlike w.first c.first
  pub open first use *
  pub known : is_some c.sequence ≡ true
  pub sequence : w.sequence ≡ c.sequence
  pub intra : w.intra ≡ c.intra
  pub non_intra : w.non_intra ≡ c.non_intra
  pub waiting : w.waiting ≡ c.waiting
  pub headers : w.headers_only ≡ c.headers_only
  pub pictures : OpenAlike w.picture c.picture

-- a slice of a picture that is left out
pub record IsLeftSlice (w c : State) (u : List ℕ) (p q : Part) : Type 0 where
  pub row : ℕ
  pub x : Slice
  pub own : Open
  pub other : Open
  pub whole : p ≡ slice row x
  pub cut : q ≡ unread_slice row u
  pub own_is : w.picture ≡ Some own
  pub other_is : c.picture ≡ Some other
  pub left : IsLeftOut own other
  pub read : own.slices_unread ≡ false

-- a part of the whole, and that of the cut
abbrev pub PartsAlike : State → State → List ℕ → Part → Part → Type 0
PartsAlike w c u p q = (q ≡ p) ⊎ IsLeftSlice w c u p q

-- a picture has the anchor that it needs in the cut
abbrev pub HasAnchor : State → Part → Type 0
HasAnchor c (picture info extension) = has_anchor c info ≡ true
HasAnchor c _ = Unit {0}

-- what is known of a part of the whole that was read: a picture is the second field, where one is due, and has the anchor
-- that it needs; the macroblocks of an I picture are intra
abbrev pub Knows : State → Part → Type 0
Knows w (picture info extension) = (is_second_field_due w.waiting info extension ≡ true) × (has_anchor w info ≡ true)
Knows w (slice row x) = (s : Sequence) (o : Open) → w.sequence ≡ Some s → w.picture ≡ Some o → o.info.kind ≡ 1
    → AreStill (slice_setup w s o) (slice_start (slice_setup w s o).context row o.covered x.info.quantiser) x.macroblocks
Knows w _ = Unit {0}

-- ---- questions

complete_alike : (s : Option Sequence) (a b : Option Open) → OpenAlike a b → is_complete s a ≡ true → is_complete s b ≡ true
complete_alike None a b h e = refl
complete_alike (Some s) None None h e = refl
complete_alike (Some s) None (Some q) h e = absurd h
complete_alike (Some s) (Some p) None h e = refl
complete_alike (Some s) (Some p) (Some q) (inl same) e = subst (λ (x : Open). is_complete (Some s) (Some x) ≡ true) same e
complete_alike (Some s) (Some p) (Some q) (inr left) e = rw (left.unread) refl

takes_alike : (a b : Option Open) → OpenAlike a b → takes_matrices a ≡ true → takes_matrices b ≡ true
takes_alike None None h e = e
takes_alike None (Some q) h e = absurd h
takes_alike (Some p) None h e = absurd h
takes_alike (Some p) (Some q) (inl same) e = subst (λ (x : Open). takes_matrices (Some x) ≡ true) same e
takes_alike (Some p) (Some q) (inr left) e = ap not left.has_slice ∙ e

pub closes : (w c : State) → AreAlike w c → is_complete w.sequence w.picture ≡ true → is_complete c.sequence c.picture ≡ true
closes w c a e = complete_alike c.sequence w.picture c.picture a.pictures (subst (λ (s : Option Sequence). is_complete s w.picture ≡ true) a.sequence e)

same_first : (w c : State) (a : AreAlike w c) (s : Sequence) → is_same_sequence w.first s ≡ true → is_same_sequence c.first s ≡ true
same_first w c a s e = ap (λ (f : Option Sequence). is_same_sequence f s) a.cut ∙ a.firsts s (ap (λ (f : Option Sequence). is_same_sequence f s) (sym a.whole) ∙ e)

-- ---- joints

-- what is read of a part in the cut
abbrev Reading : State → State → List ℕ → Part → Part → Type 0
Reading w c u p q = PartsAlike w c u p q × Knows w p

-- what stands in the whole stands in the cut
abbrev Follows : State → State → List ℕ → Among Part → Among Part → Type 0
Follows w c u s z = (p : Part) (t rest : Units) → s.Stands p t rest → (Knows w p → HasAnchor c p) → (q : Part) × Reading w c u p q × z.Stands q t rest

abbrev FollowsOn : State → State → List ℕ → Among (Bool × Part) → Among (Bool × Part) → Type 0
FollowsOn w c u s z = (x : Bool × Part) (t rest : Units) → s.Stands x t rest → (Knows w x.1 → HasAnchor c x.1) → (q : Part) × Reading w c u x.1 q × z.Stands (x.0, q) t rest

abbrev Needs : State → State → Part → Type 0
Needs w c p = Knows w p → HasAnchor c p

gone_follows : (w c : State) (u : List ℕ) (b : Bool) (s z : Among Part) → Follows w c u s z → FollowsOn w c u (seq s (λ p. done (b, p))) (seq z (λ p. done (b, p)))
unfolding seq done
gone_follows w c u b s z f x t rest h k =
    let own : x.1 ≡ h.0 = ap (λ (y : Bool × Part). y.1) h.3.0 in
    let go : x.0 ≡ b = ap (λ (y : Bool × Part). y.0) h.3.0 in
    let g = f h.0 t h.1 h.2 (subst (Needs w c) own k) in
    (g.0, subst (λ (p : Part). Reading w c u p g.0) (sym own) g.1, (g.0, h.1, g.2, (ap (λ (y : Bool). (y, g.0)) go, h.3.1)))

onward_follows : (w c : State) (u : List ℕ) (s z : Among Part) → Follows w c u s z → FollowsOn w c u (onward s) (onward z)
unfolding onward
onward_follows w c u s z f = gone_follows w c u true s z f

final_follows : (w c : State) (u : List ℕ) (s z : Among Part) → Follows w c u s z → FollowsOn w c u (final s) (final z)
unfolding final
final_follows w c u s z f = gone_follows w c u false s z f

choose_follows : (w c : State) (u : List ℕ) (a b : Bool) (s z v x : Among (Bool × Part)) → a ≡ b → FollowsOn w c u s z → FollowsOn w c u v x → FollowsOn w c u (choose a s v) (choose b z x)
unfolding choose
choose_follows w c u a b s z v x e f g y t rest (inl h) k = let r = f y t rest h.1 k in (r.0, r.1, inl (sym e ∙ h.0, r.2))
choose_follows w c u a b s z v x e f g y t rest (inr h) k = let r = g y t rest h.1 k in (r.0, r.1, inr (sym e ∙ h.0, r.2))

part_chosen : (w c : State) (u : List ℕ) (b : Bool) (s z v x : Among Part) → Follows w c u s z → Follows w c u v x → Follows w c u (choose b s v) (choose b z x)
unfolding choose
part_chosen w c u b s z v x f g y t rest (inl h) k = let r = f y t rest h.1 k in (r.0, r.1, inl (h.0, r.2))
part_chosen w c u b s z v x f g y t rest (inr h) k = let r = g y t rest h.1 k in (r.0, r.1, inr (h.0, r.2))

refused : (w c : State) (u : List ℕ) (kind other : FaultKind) (at place : ℕ) → Follows w c u (refuse kind at) (refuse other place)
unfolding refuse
refused w c u kind other at place p t rest h k = absurd h

refused_on : (w c : State) (u : List ℕ) (kind other : FaultKind) (at place : ℕ) → FollowsOn w c u (refuse kind at) (refuse other place)
unfolding refuse
refused_on w c u kind other at place p t rest h k = absurd h

skipped_follows : (w c : State) (u : List ℕ) → Follows w c u (done (skipped_unit u)) (done (skipped_unit u))
unfolding done
skipped_follows w c u p t rest h k = (p, (inl refl, subst (Knows w) (sym h.0) tt), h)

skipped_on : (w c : State) (u : List ℕ) → FollowsOn w c u (done (true, skipped_unit u)) (done (true, skipped_unit u))
unfolding done
skipped_on w c u x t rest h k = (x.1, (inl refl, subst (λ (y : Bool × Part). Knows w y.1) (sym h.0) tt), h)

-- ---- units

sequence_follows : (w c : State) (start : ℕ) (u : List ℕ) → AreAlike w c → Follows w c u (sequence_unit w start u) (sequence_unit c start u)
unfolding sequence_unit close no_second_field_due seq rule done
sequence_follows w c start u a p t rest (i, t0, ended, (j, t1, paired, (info, t2, own, (next, t3, at, (v, t4, there, (x, t5, read, (l, t6, same, is))))))) k =
    let waits : none_waits c.waiting ≡ true = ap none_waits (sym a.waiting) ∙ paired.0 in (
      p,
      (inl refl, subst (Knows w) (sym is.0) tt),
      (i, t0, (closes w c a ended.0, ended.1), (j, t1, (waits, paired.1), (info, t2, own, (next, t3, at, (v, t4, there, (x, t5, read, (l, t6, (same_first w c a _ same.0, same.1), is))))))),
    )

group_follows : (w c : State) (start : ℕ) (u : List ℕ) → AreAlike w c → Follows w c u (group_unit w start u) (group_unit c start u)
unfolding group_unit close no_second_field_due seq rule done
group_follows w c start u a p t rest h k =
    let l1 = h.3 in
    let waits : none_waits c.waiting ≡ true = ap none_waits (sym a.waiting) ∙ l1.2.0 in
    (p, (inl refl, subst (Knows w) (sym l1.3.3.0) tt), (h.0, h.1, (closes w c a h.2.0, h.2.1), (l1.0, l1.1, (waits, l1.2.1), l1.3)))

end_follows : (w c : State) (start : ℕ) (u : List ℕ) → AreAlike w c → Follows w c u (end_unit w start) (end_unit c start)
unfolding end_unit close no_second_field_due seq rule done
end_follows w c start u a p t rest h k =
    let l1 = h.3 in
    let waits : none_waits c.waiting ≡ true = ap none_waits (sym a.waiting) ∙ l1.2.0 in
    (p, (inl refl, subst (Knows w) (sym l1.3.0) tt), (h.0, h.1, (closes w c a h.2.0, h.2.1), (l1.0, l1.1, (waits, l1.2.1), l1.3)))

picture_follows : (w c : State) (start : ℕ) (u : List ℕ) → AreAlike w c → Follows w c u (picture_unit w start u) (picture_unit c start u)
unfolding picture_unit close seq rule done
picture_follows w c start u a p t rest (i, t0, ended, (info, t1, own, (next, t2, at, (v, t3, there, (x, t4, read, (j, t5, due, (l, t6, anchored, is))))))) k =
    let extension = subst (λ (s : Option Sequence). (extension_behind 8 v next (whole_header (picture_extension_in (is_progressive s) info))).Stands x t3 t4) a.sequence read in
    let pair : is_second_field_due c.waiting info x ≡ true = ap (λ (f : Option FirstField). is_second_field_due f info x) (sym a.waiting) ∙ due.0 in
    let knows : Knows w (picture info x) = (due.0, anchored.0) in
    let anchor : has_anchor c info ≡ true = subst (Needs w c) is.0 k knows in (
      p,
      (inl refl, subst (Knows w) (sym is.0) knows),
      (i, t0, (closes w c a ended.0, ended.1), (info, t1, own, (next, t2, at, (v, t3, there, (x, t4, extension, (j, t5, (pair, due.1), (l, t6, (anchor, anchored.1), is))))))),
    )

matrix_follows : (w c : State) (start : ℕ) (u : List ℕ) → AreAlike w c → Follows w c u (matrix_unit w start u) (matrix_unit c start u)
unfolding matrix_unit seq rule done
matrix_follows w c start u a p t rest h k = (p, (inl refl, subst (Knows w) (sym h.3.3.0) tt), (h.0, h.1, (takes_alike w.picture c.picture a.pictures h.2.0, h.2.1), h.3))

extension_follows : (w c : State) (start : ℕ) (u : List ℕ) → AreAlike w c → Follows w c u (extension_unit w start u) (extension_unit c start u)
unfolding extension_unit seq
extension_follows w c start u a p t rest h k =
    let g = part_chosen w c u _ _ _ _ _ (refused w c u _ _ _ _) (part_chosen w c u _ _ _ _ _ (matrix_follows w c start u a) (part_chosen w c u _ _ _ _ _ (refused w c u _ _ _ _) (skipped_follows w c u))) p h.1 rest h.3 k in
    (g.0, g.1, (h.0, h.1, h.2, g.2))

-- ---- slices

pub setup_same : (w c : State) (s : Sequence) (p : Open) → AreAlike w c → slice_setup w s p ≡ slice_setup c s p
unfolding slice_setup
setup_same w c s p a = rw (a.intra, a.non_intra) refl

some_is : {A : Type 0} (x y : A) → Some x ≡ Some y → x ≡ y
some_is x y e = cc

setup_kind : (w : State) (s : Sequence) (o : Open) → (slice_setup w s o).context.kind ≡ o.info.kind
unfolding slice_setup
setup_kind w s o = refl

-- the macroblocks of a slice of an I picture
slice_known : (w : State) (s : Sequence) (p : Open) (row : ℕ) (u : List ℕ) (x : Slice) (end : List Bool) → w.sequence ≡ Some s → w.picture ≡ Some p → (slice_at (slice_setup w s p) p.covered row).Stands x (body u) end → Knows w (slice row x)
slice_known w s p row u x end sequence_is own h t o st so one =
    let es : s ≡ t = some_is s t (sym sequence_is ∙ st) in
    let eo : p ≡ o = some_is p o (sym own ∙ so) in
    subst (λ (v : Sequence). AreStill (slice_setup w v o) (slice_start (slice_setup w v o).context row o.covered x.info.quantiser) x.macroblocks) es
    (slice_still (slice_setup w s o) o.covered row x (body u) end (setup_kind w s o ∙ one) (subst (λ (v : Open). (slice_at (slice_setup w s v) v.covered row).Stands x (body u) end) eo h))

slice_in_known : (w : State) (s : Sequence) (p : Open) (row start : ℕ) (u : List ℕ) (y : Part) (t rest : Units) → w.sequence ≡ Some s → w.picture ≡ Some p → (slice_in w s p row start u).Stands y t rest → Knows w y
unfolding slice_in read_slice seq rule choose done inside
slice_in_known w s p row start u y t rest sequence_is own (v, mid, order, inl h) = subst (Knows w) (sym h.1.0) tt
slice_in_known w s p row start u y t rest sequence_is own (v, mid, order, inr h) =
    let x = h.1.0 in
    subst (Knows w) (sym h.1.3.0) (slice_known w s p row u x h.1.2.1.0 sequence_is own h.1.2.1.1)

kept_slice : (w c : State) (s : Sequence) (p : Open) (row start : ℕ) (u : List ℕ) → AreAlike w c → (y : Part) (t rest : Units) → (slice_in w s p row start u).Stands y t rest → (slice_in c s p row start u).Stands y t rest
unfolding slice_in read_slice
kept_slice w c s p row start u a y t rest h =
    let e = setup_same w c s p a in
    subst (λ (x : SliceSetup). (seq (rule (nat_lt row (picture_rows s p) && nat_le p.row row) SliceOrder start) (λ (order : Unit {0}). choose p.slices_unread (done (unread_slice row u)) (seq (inside u (slice_at x p.covered row)) (λ (z : Slice). done (slice row z))))).Stands y t rest) e h

-- a slice of a picture that is left out
left_slice : (w c : State) (s : Sequence) (p q : Open) (row start : ℕ) (u : List ℕ) → w.picture ≡ Some p → c.picture ≡ Some q → IsLeftOut p q → (y : Part) (t rest : Units)
    → (slice_in w s p row start u).Stands y t rest → (z : Part) × PartsAlike w c u y z × (slice_in c s q row start u).Stands z t rest
unfolding slice_in read_slice seq rule choose done inside
left_slice w c s p q row start u own other left y t rest (v, mid, order, inl h) =
    let rows : picture_rows s q ≡ picture_rows s p = ap (λ (e : PictureExtension). picture_rows s (record p { extension = e })) left.extension in
    let in_order : (nat_lt row (picture_rows s q) && nat_le q.row row) ≡ true = rw (rows, left.row) order.0 in
    (y, inl refl, (v, mid, (in_order, order.1), inl (left.unread, h.1)))
left_slice w c s p q row start u own other left y t rest (v, mid, order, inr h) =
    let rows : picture_rows s q ≡ picture_rows s p = ap (λ (e : PictureExtension). picture_rows s (record p { extension = e })) left.extension in
    let in_order : (nat_lt row (picture_rows s q) && nat_le q.row row) ≡ true = rw (rows, left.row) order.0 in
    let x = h.1.0 in
    let end : rest ≡ mid = h.1.3.1 ∙ h.1.2.0 in (
      unread_slice row u,
      inr (record { row = row; x = x; own = p; other = q; whole = h.1.3.0; cut = refl; own_is = own; other_is = other; left = left; read = h.0 }),
      (v, mid, (in_order, order.1), inl (left.unread, (refl, end))),
    )

slices_by : (w c : State) (s : Option Sequence) (p q : Option Open) (row start : ℕ) (u : List ℕ) → AreAlike w c → w.sequence ≡ s → w.picture ≡ p → c.picture ≡ q → OpenAlike p q → Follows w c u (slice_unit w s p row start u) (slice_unit c s q row start u)
unfolding slice_unit refuse
slices_by w c (Some s) (Some p) (Some q) row start u a is own other (inl same) y t rest h k = (
  y,
  (inl refl, slice_in_known w s p row start u y t rest is own h),
  subst (λ (x : Open). (slice_in c s x row start u).Stands y t rest) same (kept_slice w c s p row start u a y t rest h),
)
slices_by w c (Some s) (Some p) (Some q) row start u a is own other (inr left) y t rest h k =
    let g = left_slice w c s p q row start u own other left y t rest h in
    (g.0, (g.1, slice_in_known w s p row start u y t rest is own h), g.2)
slices_by w c (Some s) (Some p) None row start u a is own other o y t rest h k = absurd o
slices_by w c (Some s) None q row start u a is own other o y t rest h k = absurd h
slices_by w c None p q row start u a is own other o y t rest h k = absurd h

slice_follows : (w c : State) (row start : ℕ) (u : List ℕ) → AreAlike w c → Follows w c u (slice_unit w w.sequence w.picture row start u) (slice_unit c c.sequence c.picture row start u)
slice_follows w c row start u a y t rest h k =
    slices_by w c c.sequence w.picture c.picture row start u a a.sequence refl refl a.pictures y t rest (subst (λ (s : Option Sequence). (slice_unit w s w.picture row start u).Stands y t rest) a.sequence h) k

-- ---- all units

later_follows : (w c : State) (start value : ℕ) (u : List ℕ) → AreAlike w c → FollowsOn w c u (later_unit w start value u) (later_unit c start value u)
unfolding later_unit
later_follows w c start value u a =
    choose_follows w c u _ _ _ _ _ _ refl (onward_follows w c u _ _ (picture_follows w c start u a))
    (choose_follows w c u _ _ _ _ _ _ refl (onward_follows w c u _ _ (slice_follows w c (value - 1) start u a))
    (choose_follows w c u _ _ _ _ _ _ refl (onward_follows w c u _ _ (skipped_follows w c u))
    (choose_follows w c u _ _ _ _ _ _ refl (onward_follows w c u _ _ (extension_follows w c start u a))
    (choose_follows w c u _ _ _ _ _ _ refl (final_follows w c u _ _ (end_follows w c start u a))
    (choose_follows w c u _ _ _ _ _ _ refl (onward_follows w c u _ _ (group_follows w c start u a))
    (choose_follows w c u _ _ _ _ _ _ refl (refused_on w c u _ _ _ _) (refused_on w c u _ _ _ _)))))))

pub known_follows : (w c : State) (start value : ℕ) (u : List ℕ) → AreAlike w c → FollowsOn w c u (known_unit w start value u) (known_unit c start value u)
unfolding known_unit
known_follows w c start value u a =
    choose_follows w c u _ _ _ _ _ _ refl (onward_follows w c u _ _ (sequence_follows w c start u a))
    (choose_follows w c u _ _ _ _ _ _ (ap is_some a.sequence) (later_follows w c start value u a) (skipped_on w c u))

-- ---- states behind a part

-- the pictures that begin are alike
abbrev pub BeginAlike : State → State → Part → Type 0
BeginAlike w c (picture info extension) = OpenAlike (Some (opened w info extension)) (Some (opened c info extension))
BeginAlike w c _ = Unit {0}

sliced_left : (p q : Open) (row covered large : ℕ) (same : Bool) → nat_eq row p.row ≡ same → IsLeftOut p q → OpenAlike (with_slice (Some p) row covered large) (with_slice (Some q) row covered large)
sliced_left p q row covered large true e l =
    let f : nat_eq row q.row ≡ true = ap (nat_eq row) l.row ∙ e in
    rw (e, f) (inr (record { info = l.info; extension = l.extension; second = l.second; row = l.row; has_slice = refl; dropped = l.dropped; unread = l.unread; b = l.b }))
sliced_left p q row covered large false e l =
    let f : nat_eq row q.row ≡ false = ap (nat_eq row) l.row ∙ e in
    rw (e, f) (inr (record { info = l.info; extension = l.extension; second = l.second; row = refl; has_slice = refl; dropped = l.dropped; unread = l.unread; b = l.b }))

sliced_alike : (a b : Option Open) (row covered large : ℕ) → OpenAlike a b → OpenAlike (with_slice a row covered large) (with_slice b row covered large)
sliced_alike None None row covered large h = tt
sliced_alike None (Some q) row covered large h = absurd h
sliced_alike (Some p) None row covered large h = absurd h
sliced_alike (Some p) (Some q) row covered large (inl same) =
    subst (λ (x : Open). OpenAlike (with_slice (Some p) row covered large) (with_slice (Some x) row covered large)) same (one_alike (with_slice (Some p) row covered large))
  where
    one_alike : (o : Option Open) → OpenAlike o o
    one_alike None = tt
    one_alike (Some x) = inl refl
sliced_alike (Some p) (Some q) row covered large (inr left) = sliced_left p q row covered large _ refl left

unread_alike : (a b : Option Open) (row : ℕ) → OpenAlike a b → OpenAlike (with_unread_slice a row) (with_unread_slice b row)
unread_alike None None row h = tt
unread_alike None (Some q) row h = absurd h
unread_alike (Some p) None row h = absurd h
unread_alike (Some p) (Some q) row (inl same) = inl (ap (λ (x : Open). record x { has_slice = true; row = row }) same)
unread_alike (Some p) (Some q) row (inr l) = inr (record { info = l.info; extension = l.extension; second = l.second; row = refl; has_slice = refl; dropped = l.dropped; unread = l.unread; b = l.b })

left_alike : (p q : Open) (row covered large : ℕ) (same : Bool) → nat_eq row p.row ≡ same → IsLeftOut p q → OpenAlike (with_slice (Some p) row covered large) (with_unread_slice (Some q) row)
left_alike p q row covered large true e l =
    rw e (inr (record { info = l.info; extension = l.extension; second = l.second; row = eqb-true row p.row e; has_slice = refl; dropped = l.dropped; unread = l.unread; b = l.b }))
left_alike p q row covered large false e l =
    rw e (inr (record { info = l.info; extension = l.extension; second = l.second; row = refl; has_slice = refl; dropped = l.dropped; unread = l.unread; b = l.b }))

-- with other pictures
with_pictures : (w c : State) (p q : Option Open) → AreAlike w c → OpenAlike p q → AreAlike (record w { picture = p }) (record c { picture = q })
with_pictures w c p q a o = record { first = a.first; known = a.known; sequence = a.sequence; intra = a.intra; non_intra = a.non_intra; waiting = a.waiting; headers = a.headers; pictures = o }

-- behind another sequence header
first_again : {w c : Option Sequence} (s : Sequence) → FirstsAlike w c → FirstsAlike (Some (first_or w s)) (Some (first_or c s))
first_again s f = record {
  first_whole = f.first_whole;
  first_cut = f.first_cut;
  whole = ap (λ (o : Option Sequence). Some (first_or o s)) f.whole;
  cut = ap (λ (o : Option Sequence). Some (first_or o s)) f.cut;
  firsts = f.firsts;
}

same_alike : (w c : State) (p : Part) → AreAlike w c → BeginAlike w c p → AreAlike (after w p) (after c p)
unfolding after
same_alike w c (sequence s) a b = record { first = first_again s a.first; known = refl; sequence = refl; intra = refl; non_intra = refl; waiting = a.waiting; headers = a.headers; pictures = tt }
same_alike w c (group g) a b = record { first = a.first; known = a.known; sequence = a.sequence; intra = a.intra; non_intra = a.non_intra; waiting = a.waiting; headers = a.headers; pictures = tt }
same_alike w c (picture info extension) a b = record {
  first = a.first;
  known = a.known;
  sequence = a.sequence;
  intra = a.intra;
  non_intra = a.non_intra;
  waiting = rw (a.waiting) refl;
  headers = a.headers;
  pictures = b;
}
same_alike w c (matrices m) a b = record {
  first = a.first;
  known = a.known;
  sequence = a.sequence;
  intra = ap (loaded_or m.intra) a.intra;
  non_intra = ap (loaded_or m.non_intra) a.non_intra;
  waiting = a.waiting;
  headers = a.headers;
  pictures = a.pictures;
}
same_alike w c (slice row x) a b = with_pictures w c _ _ a (sliced_alike w.picture c.picture row _ _ a.pictures)
same_alike w c (unread_slice row u) a b = with_pictures w c _ _ a (unread_alike w.picture c.picture row a.pictures)
same_alike w c (skipped_unit u) a b = a
same_alike w c ending a b = with_pictures w c _ _ a tt
same_alike w c over a b = with_pictures w c _ _ a tt

left_out_alike : (w c : State) (u : List ℕ) (p q : Part) → AreAlike w c → IsLeftSlice w c u p q → AreAlike (after w p) (after c q)
unfolding after
left_out_alike w c u p q a l =
    let covered = (l.x).covered in
    let large = large_in l.x in
    let o = left_alike l.own l.other l.row covered large _ refl l.left in
    let own : OpenAlike (with_slice w.picture l.row covered large) (with_unread_slice (Some l.other) l.row) = subst (λ (y : Option Open). OpenAlike (with_slice y l.row covered large) (with_unread_slice (Some l.other) l.row)) (sym l.own_is) o in
    let whole : OpenAlike (with_slice w.picture l.row covered large) (with_unread_slice c.picture l.row) = subst (λ (y : Option Open). OpenAlike (with_slice w.picture l.row covered large) (with_unread_slice y l.row)) (sym l.other_is) own in
    subst (λ (y : Part). AreAlike (after w y) (after c q)) (sym l.whole) (subst (λ (y : Part). AreAlike (after w (slice l.row l.x)) (after c y)) (sym l.cut) (with_pictures w c _ _ a whole))

pub after_alike : (w c : State) (u : List ℕ) (p q : Part) → AreAlike w c → BeginAlike w c p → PartsAlike w c u p q → AreAlike (after w p) (after c q)
after_alike w c u p q a b (inl same) = subst (λ (y : Part). AreAlike (after w p) (after c y)) (sym same) (same_alike w c p a b)
after_alike w c u p q a b (inr left) = left_out_alike w c u p q a left
