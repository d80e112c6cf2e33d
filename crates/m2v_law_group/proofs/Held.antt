-- The frames at hand in the whole stream, and those in a cut.
use Rattle.std.proofs.Common.{◌≡◌, ℕ, zero, suc, ◌+◌, Bool, true, false, ◌++◌, Option, Some, None, ◌⊎◌, inl, inr, refl, sym, ap, subst, ◌∙◌, arith}
use Rattle.std.specs.Prelude.{nat_eq, nat_le, is_some, not, ◌&&◌, ◌||◌, if◌then◌else◌}
use Rattle.std.proofs.lemmas.Bool.{cases_Bool, eqb-true, le-leb}
use Rattle.m2v_order.specs.m2v_plane.Samples.{Samples, blank}
use Rattle.m2v_model.specs.m2v_macroblock.m2v_head.declared.picture.PictureInfo.{PictureInfo}
use Rattle.m2v_model.specs.m2v_macroblock.m2v_head.declared.picture.PictureExtension.{PictureExtension}
use Rattle.m2v_model.specs.declared.setup.SliceSetup.{SliceSetup}
use Rattle.m2v_model.specs.declared.state.Sequence.{Sequence}
use Rattle.m2v_model.specs.declared.state.Open.{Open}
use Rattle.m2v_model.specs.declared.state.FirstField.{FirstField}
use Rattle.m2v_model.specs.declared.state.State.{State}
use Rattle.m2v_model.specs.States.{dims_of, is_b, is_frame, is_frame_end, crowded_by, one_anchor_more, is_second_field_due, opened, slice_setup, with_slice, with_unread_slice}
use Rattle.m2v_model.specs.Slices.{Slice, slice_start}
use Rattle.m2v_model.specs.Samples.{References, put_in_frame, all_painted}
use Rattle.m2v_model.specs.Pictures.{Store, no_references, references_by, references_of, slice_painted, Pictures, picture_of, pictures_in, closed, picture_ended, picture_begun, on_frame, sliced}
use Rattle.m2v_law_group.proofs.Shows.{Beside, AreBeside}
use Rattle.m2v_law_group.proofs.Intra.{AreStill, all_same}
use Rattle.m2v_law_group.proofs.Alike.{IsLeftOut, AreAlike, setup_same}
use Rattle.m2v_law_group.proofs.Counted.{is_left_kind, BegunAs, anchors_by, b_follows}

-- the last anchor, or the one before it, is the same in both
abbrev IsKnown : Bool → ℕ → ℕ → Type 0
IsKnown changed n anchors = (not changed || nat_le n anchors) ≡ true

-- the frame of the picture that is open, and what it is painted from: one that is left out has its own
abbrev HeldAs : Bool → Open → Open → Store → Store → Type 0
HeldAs true p q sw sc = IsLeftOut p q
HeldAs false p q sw sc = (p ≡ q) × (sw.current ≡ sc.current) × ((sw.current ≡ None) ⊎ ((sw.references ≡ sc.references) ⊎ (p.info.kind ≡ 1)))

-- the pictures that are open, behind so many anchors; where none is, the frame of the first field that waits
abbrev pub OpenHeld : Bool → ℕ → Option FirstField → Option Open → Option Open → Store → Store → Type 0
OpenHeld changed k waiting None None sw sc = (f : FirstField) → waiting ≡ Some f → is_left_kind changed k f.kind ≡ false → sw.current ≡ sc.current
OpenHeld changed k waiting None (Some q) sw sc = ⊥
OpenHeld changed k waiting (Some p) None sw sc = ⊥
OpenHeld changed k waiting (Some p) (Some q) sw sc = HeldAs (is_left_kind changed k p.info.kind) p q sw sc × ((f : FirstField) → waiting ≡ Some f → f.kind ≡ p.info.kind)

-- the anchors behind the picture that is open
abbrev pub counted : ℕ → Option Open → ℕ
counted k None = k
counted k (Some p) = anchors_by (is_frame_end p) (is_b p.info.kind) k

-- what is at hand, behind so many anchors before the picture that is open
pub record AreHeld (changed : Bool) (k anchors : ℕ) (waiting : Option FirstField) (p q : Option Open) (sw sc : Store) : Type 0 where
  pub count : anchors ≡ counted k q
  pub newer : IsKnown changed 1 k → sw.newer ≡ sc.newer
  pub older : IsKnown changed 2 k → sw.older ≡ sc.older
  pub «open» : OpenHeld changed k waiting p q sw sc

-- the same where no picture is open
pub record AreRested (changed : Bool) (anchors : ℕ) (waiting : Option FirstField) (sw sc : Store) : Type 0 where
  pub newer : IsKnown changed 1 anchors → sw.newer ≡ sc.newer
  pub older : IsKnown changed 2 anchors → sw.older ≡ sc.older
  pub current : (f : FirstField) → waiting ≡ Some f → is_left_kind changed anchors f.kind ≡ false → sw.current ≡ sc.current

-- ---- where a picture ends

abbrev ended_by : Bool → Bool → Store → Store
ended_by ends b s =
    record (if ends then (if b then record s { current = None } else record s { older = s.newer; newer = s.current; current = None }) else s) { references = no_references }

one_less : (changed : Bool) (k : ℕ) → IsKnown changed 2 (one_anchor_more k) → IsKnown changed 1 k
one_less false k h = refl
one_less true zero h = absurd cc
one_less true (suc k) h = le-leb 1 (suc k) (omega arith)

record AreEnded (changed : Bool) (anchors : ℕ) (sw sc : Store) : Type 0 where
  newer : IsKnown changed 1 anchors → sw.newer ≡ sc.newer
  older : IsKnown changed 2 anchors → sw.older ≡ sc.older
  current : sw.current ≡ sc.current

ended_kept : (changed ends b : Bool) (k : ℕ) (sw sc : Store) → (IsKnown changed 1 k → sw.newer ≡ sc.newer) → (IsKnown changed 2 k → sw.older ≡ sc.older) → sw.current ≡ sc.current
    → AreEnded changed (anchors_by ends b k) (ended_by ends b sw) (ended_by ends b sc)
ended_kept changed true true k sw sc newer older current = record { newer = newer; older = older; current = refl }
ended_kept changed true false k sw sc newer older current = record { newer = λ h. current; older = λ h. newer (one_less changed k h); current = refl }
ended_kept changed false b k sw sc newer older current = record { newer = newer; older = older; current = current }

record AreLeft (anchors k : ℕ) (sw sc ew ec : Store) : Type 0 where
  count : anchors ≡ k
  newer_whole : ew.newer ≡ sw.newer
  newer_cut : ec.newer ≡ sc.newer
  older_whole : ew.older ≡ sw.older
  older_cut : ec.older ≡ sc.older

-- a B picture takes the place of no anchor
ended_left : (ends b : Bool) (k : ℕ) (sw sc : Store) → b ≡ true → AreLeft (anchors_by ends b k) k sw sc (ended_by ends b sw) (ended_by ends b sc)
ended_left true true k sw sc e = record { count = refl; newer_whole = refl; newer_cut = refl; older_whole = refl; older_cut = refl }
ended_left false true k sw sc e = record { count = refl; newer_whole = refl; newer_cut = refl; older_whole = refl; older_cut = refl }
ended_left ends false k sw sc e = absurd cc

-- a picture that is left out ends as that of the whole does
end_same : (p q : Open) → IsLeftOut p q → is_frame_end q ≡ is_frame_end p
end_same p q l = ap (λ (e : PictureExtension). is_frame e || q.second_field) l.extension ∙ ap (λ (b : Bool). is_frame p.extension || b) l.second

kind_same : (p q : Open) → IsLeftOut p q → is_b q.info.kind ≡ is_b p.info.kind
kind_same p q l = ap (λ (i : PictureInfo). is_b i.kind) l.info

rested_open : (changed left : Bool) (k : ℕ) (waiting : Option FirstField) (p q : Open) (sw sc : Store) → is_left_kind changed k p.info.kind ≡ left → (IsKnown changed 1 k → sw.newer ≡ sc.newer) → (IsKnown changed 2 k → sw.older ≡ sc.older)
    → HeldAs left p q sw sc → ((f : FirstField) → waiting ≡ Some f → f.kind ≡ p.info.kind)
    → AreRested changed (counted k (Some q)) waiting (picture_ended (Some p) sw) (picture_ended (Some q) sc)
rested_open changed false k waiting p q sw sc e newer older h waits =
    let a = ended_kept changed (is_frame_end p) (is_b p.info.kind) k sw sc newer older h.1 in
    let r : AreRested changed (counted k (Some p)) waiting (picture_ended (Some p) sw) (picture_ended (Some p) sc) = record { newer = a.newer; older = a.older; current = λ f is left. a.current } in
    subst (λ (x : Open). AreRested changed (counted k (Some x)) waiting (picture_ended (Some p) sw) (picture_ended (Some x) sc)) h.0 r
rested_open changed true k waiting p q sw sc e newer older l waits =
    let a = ended_left (is_frame_end p) (is_b p.info.kind) k sw sc l.b in
    let r : AreRested changed (anchors_by (is_frame_end p) (is_b p.info.kind) k) waiting (picture_ended (Some p) sw) (ended_by (is_frame_end p) (is_b p.info.kind) sc) = record {
      newer = λ h. a.newer_whole ∙ newer (subst (IsKnown changed 1) a.count h) ∙ sym a.newer_cut;
      older = λ h. a.older_whole ∙ older (subst (IsKnown changed 2) a.count h) ∙ sym a.older_cut;
      current = λ f is kept. let wrong = sym e ∙ ap (is_left_kind changed k) (sym (waits f is)) ∙ ap (λ (n : ℕ). is_left_kind changed n f.kind) (sym a.count) ∙ kept in absurd cc;
    } in
    subst (λ (x : Bool). AreRested changed (anchors_by x (is_b q.info.kind) k) waiting (picture_ended (Some p) sw) (ended_by x (is_b q.info.kind) sc)) (sym (end_same p q l))
    (subst (λ (x : Bool). AreRested changed (anchors_by (is_frame_end p) x k) waiting (picture_ended (Some p) sw) (ended_by (is_frame_end p) x sc)) (sym (kind_same p q l)) r)

rested_by : (changed : Bool) (k : ℕ) (waiting : Option FirstField) (p q : Option Open) (sw sc : Store) → (IsKnown changed 1 k → sw.newer ≡ sc.newer) → (IsKnown changed 2 k → sw.older ≡ sc.older) → OpenHeld changed k waiting p q sw sc
    → AreRested changed (counted k q) waiting (picture_ended p sw) (picture_ended q sc)
rested_by changed k waiting None None sw sc newer older o = record { newer = newer; older = older; current = o }
rested_by changed k waiting None (Some q) sw sc newer older o = absurd o
rested_by changed k waiting (Some p) None sw sc newer older o = absurd o
rested_by changed k waiting (Some p) (Some q) sw sc newer older o = rested_open changed _ k waiting p q sw sc refl newer older o.0 o.1

pub rested : (changed : Bool) (k anchors : ℕ) (waiting : Option FirstField) (p q : Option Open) (sw sc : Store) → AreHeld changed k anchors waiting p q sw sc → AreRested changed anchors waiting (picture_ended p sw) (picture_ended q sc)
rested changed k anchors waiting p q sw sc h =
    subst (λ (n : ℕ). AreRested changed n waiting (picture_ended p sw) (picture_ended q sc)) (sym h.count) (rested_by changed k waiting p q sw sc h.newer h.older h.«open»)

-- what is at hand with no picture open
pub still_held : (changed : Bool) (anchors : ℕ) (waiting : Option FirstField) (sw sc : Store) → AreRested changed anchors waiting sw sc → AreHeld changed anchors anchors waiting None None sw sc
still_held changed anchors waiting sw sc r = record { count = refl; newer = r.newer; older = r.older; «open» = r.current }

-- ---- where a picture begins

-- both anchors are known where a B picture is kept
both_known : (changed b : Bool) (anchors : ℕ) → b ≡ true → (changed && (b && not (nat_le 2 anchors))) ≡ false → (IsKnown changed 2 anchors) × IsKnown changed 1 anchors
both_known false b anchors e h = (refl, refl)
both_known true true zero e h = absurd cc
both_known true true (suc zero) e h = absurd cc
both_known true true (suc (suc n)) e h = (le-leb 2 (suc (suc n)) (omega arith), le-leb 1 (suc (suc n)) (omega arith))
both_known changed false anchors e h = absurd cc

-- the first field of a picture that is kept is kept
field_kept : (changed : Bool) (anchors : ℕ) (waiting : Option FirstField) (info : PictureInfo) (extension : PictureExtension) (f : FirstField) → waiting ≡ Some f → is_second_field_due waiting info extension ≡ true → is_left_kind changed anchors info.kind ≡ false → is_left_kind changed anchors f.kind ≡ false
field_kept changed anchors waiting info extension f is due kept =
    elim (cases_Bool (is_b f.kind)) [
      | inl b ↦ ap (is_left_kind changed anchors) (sym (b_follows waiting info extension f is due b)) ∙ kept
      | inr other ↦ rw other (none_left changed)
    ]
  where
    none_left : (b : Bool) → (b && false) ≡ false
    none_left true = refl
    none_left false = refl

current_same : (changed : Bool) (anchors : ℕ) (waiting : Option FirstField) (info : PictureInfo) (extension : PictureExtension) (sw sc : Store) → AreRested changed anchors waiting sw sc → is_second_field_due waiting info extension ≡ true → is_left_kind changed anchors info.kind ≡ false
    → (second : Bool) → is_some waiting ≡ second → second ≡ true → sw.current ≡ sc.current
current_same changed anchors None info extension sw sc r due kept second e on = absurd cc
current_same changed anchors (Some f) info extension sw sc r due kept second e on = r.current f refl (field_kept changed anchors (Some f) info extension f refl due kept)

references_same : (changed b second : Bool) (anchors : ℕ) (kind structure : ℕ) (sw sc : Store) → is_b kind ≡ b → ((IsKnown changed 1 anchors → sw.newer ≡ sc.newer)) → ((IsKnown changed 2 anchors → sw.older ≡ sc.older)) → (second ≡ true → sw.current ≡ sc.current)
    → is_left_kind changed anchors kind ≡ false → IsKnown changed 1 anchors → references_by kind second structure sw ≡ references_by kind second structure sc
unfolding references_by
references_same changed true second anchors kind structure sw sc e newer older current kept known =
    let both = both_known changed (is_b kind) anchors e kept in
    rw (e, older both.0, newer both.1) refl
references_same changed false true anchors kind structure sw sc e newer older current kept known =
    rw (e, newer known, current refl) refl
references_same changed false false anchors kind structure sw sc e newer older current kept known = rw (e, newer known) refl

-- a picture that begins, by what it begins with
abbrev begun_by : Bool → Bool → Samples → References → Store → Store
begun_by unread second blank refs store = if unread then record store { current = None } else record store { current = if second then store.current else Some blank; references = refs }

parts_begun : (unread second : Bool) (frame : Samples) (a b : References) (sw sc : Store) (Other : Type 0) → (a ≡ b) ⊎ Other → (second ≡ true → sw.current ≡ sc.current)
    → ((begun_by unread second frame a sw).current ≡ (begun_by unread second frame b sc).current) × (((begun_by unread second frame a sw).current ≡ None) ⊎ (((begun_by unread second frame a sw).references ≡ (begun_by unread second frame b sc).references) ⊎ Other))
parts_begun true second frame a b sw sc Other refs current = (refl, inl refl)
parts_begun false true frame a b sw sc Other (inl same) current = (current refl, inr (inl same))
parts_begun false true frame a b sw sc Other (inr other) current = (current refl, inr (inr other))
parts_begun false false frame a b sw sc Other (inl same) current = (refl, inr (inl same))
parts_begun false false frame a b sw sc Other (inr other) current = (refl, inr (inr other))

begun_references : (changed : Bool) (anchors : ℕ) (p : Open) (sw sc : Store) → (IsKnown changed 1 anchors → sw.newer ≡ sc.newer) → (IsKnown changed 2 anchors → sw.older ≡ sc.older) → (p.second_field ≡ true → sw.current ≡ sc.current)
    → is_left_kind changed anchors p.info.kind ≡ false → (IsKnown changed 1 anchors) ⊎ (p.info.kind ≡ 1) → (references_of p sw ≡ references_of p sc) ⊎ (p.info.kind ≡ 1)
begun_references changed anchors p sw sc newer older current kept (inl known) = inl (references_same changed _ p.second_field anchors p.info.kind p.extension.structure sw sc refl newer older current kept known)
begun_references changed anchors p sw sc newer older current kept (inr one) = inr one

begun_kept : (changed : Bool) (anchors : ℕ) (p : Open) (s : Sequence) (sw sc : Store) → (IsKnown changed 1 anchors → sw.newer ≡ sc.newer) → (IsKnown changed 2 anchors → sw.older ≡ sc.older) → (p.second_field ≡ true → sw.current ≡ sc.current)
    → is_left_kind changed anchors p.info.kind ≡ false → (IsKnown changed 1 anchors) ⊎ (p.info.kind ≡ 1)
    → HeldAs false p p (picture_begun (Some s) p sw) (picture_begun (Some s) p sc)
begun_kept changed anchors p s sw sc newer older current kept known =
    let parts = parts_begun p.slices_unread p.second_field (blank (dims_of s) (dims_of s).mb_rows) (references_of p sw) (references_of p sc) sw sc (p.info.kind ≡ 1) (begun_references changed anchors p sw sc newer older current kept known) current in
    (refl, parts.0, parts.1)

-- neither anchor changes where a picture begins
begun_anchors : (s : Option Sequence) (p : Open) (sw : Store) → ((picture_begun s p sw).newer ≡ sw.newer) × ((picture_begun s p sw).older ≡ sw.older)
begun_anchors None p sw = (refl, refl)
begun_anchors (Some s) p sw = one p.slices_unread p.second_field (blank (dims_of s) (dims_of s).mb_rows) (references_of p sw)
  where
    one : (unread second : Bool) (frame : Samples) (a : References) → ((begun_by unread second frame a sw).newer ≡ sw.newer) × ((begun_by unread second frame a sw).older ≡ sw.older)
    one true second frame a = (refl, refl)
    one false second frame a = (refl, refl)

begun_held : (changed left : Bool) (anchors : ℕ) (p q : Open) (s : Sequence) (sw sc : Store) → is_left_kind changed anchors p.info.kind ≡ left → BegunAs left p q → (IsKnown changed 1 anchors → sw.newer ≡ sc.newer) → (IsKnown changed 2 anchors → sw.older ≡ sc.older)
    → (left ≡ false → p.second_field ≡ true → sw.current ≡ sc.current) → (IsKnown changed 1 anchors) ⊎ (p.info.kind ≡ 1) → HeldAs left p q (picture_begun (Some s) p sw) (picture_begun (Some s) q sc)
begun_held changed true anchors p q s sw sc e h newer older current known = h
begun_held changed false anchors p q s sw sc e h newer older current known =
    subst (λ (x : Open). HeldAs false p x (picture_begun (Some s) p sw) (picture_begun (Some s) x sc)) h (begun_kept changed anchors p s sw sc newer older (current refl) e known)

-- what is at hand behind a picture header
pub begin_held : (changed : Bool) (w c : State) (info : PictureInfo) (extension : PictureExtension) (known : Option Sequence) (sw sc : Store)
    → is_some known ≡ true → w.waiting ≡ c.waiting → is_second_field_due c.waiting info extension ≡ true → BegunAs (is_left_kind changed c.anchors info.kind) (opened w info extension) (opened c info extension)
    → (IsKnown changed 1 c.anchors) ⊎ (info.kind ≡ 1) → AreRested changed c.anchors c.waiting sw sc → (after : Option FirstField) → ((f : FirstField) → after ≡ Some f → f.kind ≡ info.kind)
    → AreHeld changed c.anchors (anchors_by (is_frame extension || is_some c.waiting) (is_b info.kind) c.anchors) after (Some (opened w info extension)) (Some (opened c info extension))
    (picture_begun known (opened w info extension) sw) (picture_begun known (opened c info extension) sc)
begin_held changed w c info extension None sw sc some waits due begun known r after link = absurd cc
begin_held changed w c info extension (Some s) sw sc some waits due begun known r after link =
    let p = opened w info extension in
    let q = opened c info extension in
    let a = begun_anchors (Some s) p sw in
    let b = begun_anchors (Some s) q sc in
    let second : p.second_field ≡ is_some c.waiting = ap (λ (f : Option FirstField). is_some f) waits in
    record {
      count = refl;
      newer = λ h. a.0 ∙ r.newer h ∙ sym b.0;
      older = λ h. a.1 ∙ r.older h ∙ sym b.1;
      «open» = (
        begun_held changed _ c.anchors p q s sw sc refl begun r.newer r.older
            (λ left on. current_same changed c.anchors c.waiting info extension sw sc r due left (is_some c.waiting) refl (sym second ∙ on)) known,
        link,
      );
    }

-- ---- what is told of a picture

picture_beside : (changed left : Bool) (k : ℕ) (p q : Open) (sw sc : Store) → is_left_kind changed k p.info.kind ≡ left → HeldAs left p q sw sc → Beside left (picture_of p sw) (picture_of q sc)
unfolding picture_of
picture_beside changed true k p q sw sc e l = (l.dropped, ap (λ (i : PictureInfo). i.kind) l.info)
picture_beside changed false k p q sw sc e h = ap (λ (x : Open). picture_of x sw) h.0 ∙ ap (λ (f : Option Samples). picture_of q (record sc { current = f })) h.1

behind_same : (changed left : Bool) (k : ℕ) (p q : Open) (sw sc : Store) → is_left_kind changed k p.info.kind ≡ left → HeldAs left p q sw sc → counted k (Some q) ≡ counted k (Some p)
behind_same changed true k p q sw sc e l = ap (λ (b : Bool). anchors_by b (is_b q.info.kind) k) (end_same p q l) ∙ ap (λ (b : Bool). anchors_by (is_frame_end p) b k) (kind_same p q l)
behind_same changed false k p q sw sc e h = ap (λ (x : Open). counted k (Some x)) (sym h.0)

-- the pictures that are open, and those that are told behind them
told_beside : (changed : Bool) (k : ℕ) (waiting : Option FirstField) (p q : Option Open) (sw sc : Store) → OpenHeld changed k waiting p q sw sc → (ps qs : Pictures) → AreBeside changed (counted k q) ps qs
    → AreBeside changed k (pictures_in (closed p sw) ++ ps) (pictures_in (closed q sc) ++ qs)
unfolding picture_of
told_beside changed k waiting None None sw sc o ps qs h = h
told_beside changed k waiting None (Some q) sw sc o ps qs h = absurd o
told_beside changed k waiting (Some p) None sw sc o ps qs h = absurd o
told_beside changed k waiting (Some p) (Some q) sw sc o ps qs h =
    (picture_beside changed (is_left_kind changed k p.info.kind) k p q sw sc refl o.0, subst (λ (n : ℕ). AreBeside changed n ps qs) (behind_same changed (is_left_kind changed k p.info.kind) k p q sw sc refl o.0) h)

pub closed_beside : (changed : Bool) (k anchors : ℕ) (waiting : Option FirstField) (p q : Option Open) (sw sc : Store) → AreHeld changed k anchors waiting p q sw sc → (ps qs : Pictures) → AreBeside changed anchors ps qs
    → AreBeside changed k (pictures_in (closed p sw) ++ ps) (pictures_in (closed q sc) ++ qs)
closed_beside changed k anchors waiting p q sw sc h ps qs b = told_beside changed k waiting p q sw sc h.«open» ps qs (subst (λ (n : ℕ). AreBeside changed n ps qs) h.count b)

-- ---- slices

paint : (w : State) (s : Sequence) (p : Open) (refs : References) (row : ℕ) (x : Slice) → Option Samples → Option Samples
paint w s p refs row x frame = on_frame (slice_painted w s p refs row x) frame

-- a slice is painted as in the whole
painted_same : (w c : State) (s : Sequence) (p : Open) (a b : References) (row : ℕ) (x : Slice) → AreAlike w c → (a ≡ b) ⊎ (p.info.kind ≡ 1)
    → (p.info.kind ≡ 1 → AreStill (slice_setup w s p) (slice_start (slice_setup w s p).context row p.covered x.info.quantiser) x.macroblocks)
    → (frame : Samples) → slice_painted w s p a row x frame ≡ slice_painted c s p b row x frame
unfolding slice_painted
painted_same w c s p a b row x alike (inl same) still frame =
    ap (λ (r : References). slice_painted w s p r row x frame) same
    ∙ ap (λ (e : SliceSetup). all_painted put_in_frame e b (slice_start e.context row p.covered x.info.quantiser) x.macroblocks frame) (setup_same w c s p alike)
painted_same w c s p a b row x alike (inr one) still frame =
    all_same put_in_frame (slice_setup w s p) a b _ x.macroblocks frame (still one)
    ∙ ap (λ (e : SliceSetup). all_painted put_in_frame e b (slice_start e.context row p.covered x.info.quantiser) x.macroblocks frame) (setup_same w c s p alike)

frame_painted : (f g : Samples → Samples) (a b : Option Samples) → a ≡ b → (a ≡ None) ⊎ ((x : Samples) → f x ≡ g x) → on_frame f a ≡ on_frame g b
frame_painted f g a b same (inl none) = ap (on_frame f) none ∙ ap (on_frame g) (sym none ∙ same)
frame_painted f g None b same (inr each) = ap (on_frame g) same
frame_painted f g (Some x) b same (inr each) = ap Some (each x) ∙ ap (on_frame g) same

none_painted : (f : Samples → Samples) (a : Option Samples) → a ≡ None → on_frame f a ≡ None
none_painted f a none = ap (on_frame f) none

-- the picture with a slice of its last row, or of one below
abbrev slice_on : Bool → Open → ℕ → ℕ → ℕ → Open
slice_on same p row covered large =
    if same
    then record p { has_slice = true; covered = covered; large_macroblocks = p.large_macroblocks + large }
    else record p { has_slice = true; row = row; covered = covered; large_macroblocks = large; crowded_row = crowded_by p }

with_slice_by : (same : Bool) (p : Open) (row covered large : ℕ) → (if same then Some (record p { has_slice = true; covered = covered; large_macroblocks = p.large_macroblocks + large }) else Some (record p { has_slice = true; row = row; covered = covered; large_macroblocks = large; crowded_row = crowded_by p })) ≡ Some (slice_on same p row covered large)
with_slice_by true p row covered large = refl
with_slice_by false p row covered large = refl

with_slice_is : (p : Open) (row covered large : ℕ) → with_slice (Some p) row covered large ≡ Some (slice_on (nat_eq row p.row) p row covered large)
with_slice_is p row covered large = with_slice_by (nat_eq row p.row) p row covered large

record OnSlice (p o : Open) (row : ℕ) : Type 0 where
  info : o.info ≡ p.info
  extension : o.extension ≡ p.extension
  second : o.second_field ≡ p.second_field
  at : o.row ≡ row
  has_slice : o.has_slice ≡ true
  dropped : o.dropped ≡ p.dropped
  unread : o.slices_unread ≡ p.slices_unread

on_slice : (same : Bool) (p : Open) (row covered large : ℕ) → nat_eq row p.row ≡ same → OnSlice p (slice_on same p row covered large) row
on_slice true p row covered large e = record { info = refl; extension = refl; second = refl; at = sym (eqb-true row p.row e); has_slice = refl; dropped = refl; unread = refl }
on_slice false p row covered large e = record { info = refl; extension = refl; second = refl; at = refl; has_slice = refl; dropped = refl; unread = refl }

-- a slice, read or unread, changes nothing of what is left out
still_left : (p q a b : Open) (row : ℕ) → IsLeftOut p q → OnSlice p a row → OnSlice q b row → IsLeftOut a b
still_left p q a b row l f g = record {
  info = g.info ∙ l.info ∙ sym f.info;
  extension = g.extension ∙ l.extension ∙ sym f.extension;
  second = g.second ∙ l.second ∙ sym f.second;
  row = g.at ∙ sym f.at;
  has_slice = g.has_slice ∙ sym f.has_slice;
  dropped = g.dropped ∙ l.dropped;
  unread = g.unread ∙ l.unread;
  b = ap (λ (i : PictureInfo). is_b i.kind) f.info ∙ l.b;
}

count_same : (k : ℕ) (q b : Open) (row : ℕ) → OnSlice q b row → counted k (Some b) ≡ counted k (Some q)
count_same k q b row g =
    ap (λ (e : PictureExtension). anchors_by (is_frame e || b.second_field) (is_b b.info.kind) k) g.extension
    ∙ ap (λ (s : Bool). anchors_by (is_frame q.extension || s) (is_b b.info.kind) k) g.second
    ∙ ap (λ (i : PictureInfo). anchors_by (is_frame_end q) (is_b i.kind) k) g.info

-- a slice of a picture that is kept, or of one that is left out
sliced_as : (left : Bool) (w c : State) (s : Sequence) (p q a b : Open) (row : ℕ) (x : Slice) (sw sc : Store) → AreAlike w c → HeldAs left p q sw sc
    → (p.info.kind ≡ 1 → AreStill (slice_setup w s p) (slice_start (slice_setup w s p).context row p.covered x.info.quantiser) x.macroblocks)
    → OnSlice p a row → OnSlice q b row → (p ≡ q → a ≡ b)
    → HeldAs left a b (sliced w (Some s) (Some p) row x sw) (sliced c (Some s) (Some q) row x sc)
sliced_as true w c s p q a b row x sw sc alike l still f g same = still_left p q a b row l f g
sliced_as false w c s p q a b row x sw sc alike (is, current, inl none) still f g same =
    (same is, ap (on_frame (slice_painted w s p sw.references row x)) none ∙ sym (ap (on_frame (slice_painted c s q sc.references row x)) (sym current ∙ none)), inl (none_painted _ sw.current none))
sliced_as false w c s p q a b row x sw sc alike (is, current, inr refs) still f g same =
    let painted : (z : Samples) → slice_painted w s p sw.references row x z ≡ slice_painted c s q sc.references row x z = λ z.
    painted_same w c s p sw.references sc.references row x alike refs still z ∙ ap (λ (o : Open). slice_painted c s o sc.references row x z) is in
    (same is, frame_painted (slice_painted w s p sw.references row x) (slice_painted c s q sc.references row x) sw.current sc.current current (inr painted), inr (still_one refs))
  where
    still_one : (sw.references ≡ sc.references) ⊎ (p.info.kind ≡ 1) → (sw.references ≡ sc.references) ⊎ (a.info.kind ≡ 1)
    still_one (inl r) = inl r
    still_one (inr one) = inr (ap (λ (i : PictureInfo). i.kind) f.info ∙ one)

on_unread : (p : Open) (row : ℕ) → OnSlice p (record p { has_slice = true; row = row }) row
on_unread p row = record { info = refl; extension = refl; second = refl; at = refl; has_slice = refl; dropped = refl; unread = refl }

-- the open pictures with a slice more
open_sliced : (changed : Bool) (k : ℕ) (waiting : Option FirstField) (p q a b : Open) (row : ℕ) (sw sc : Store) → OnSlice p a row → HeldAs (is_left_kind changed k p.info.kind) a b sw sc → ((f : FirstField) → waiting ≡ Some f → f.kind ≡ p.info.kind)
    → OpenHeld changed k waiting (Some a) (Some b) sw sc
open_sliced changed k waiting p q a b row sw sc f h link =
    let kind = ap (λ (i : PictureInfo). i.kind) f.info in
    (subst (λ (n : ℕ). HeldAs (is_left_kind changed k n) a b sw sc) (sym kind) h, λ g is. link g is ∙ sym kind)

sliced_anchors : (w : State) (s : Option Sequence) (p : Option Open) (row : ℕ) (x : Slice) (sw : Store) → ((sliced w s p row x sw).newer ≡ sw.newer) × ((sliced w s p row x sw).older ≡ sw.older)
sliced_anchors w (Some s) (Some p) row x sw = (refl, refl)
sliced_anchors w (Some s) None row x sw = (refl, refl)
sliced_anchors w None p row x sw = (refl, refl)

-- what is at hand behind a slice that is read in both
pub slice_held : (changed : Bool) (k : ℕ) (w c : State) (s : Option Sequence) (p q : Option Open) (row : ℕ) (x : Slice) (covered large : ℕ) (sw sc : Store) → AreAlike w c → is_some s ≡ true → AreHeld changed k c.anchors c.waiting p q sw sc
    → ((t : Sequence) (o : Open) → s ≡ Some t → p ≡ Some o → o.info.kind ≡ 1 → AreStill (slice_setup w t o) (slice_start (slice_setup w t o).context row o.covered x.info.quantiser) x.macroblocks)
    → AreHeld changed k c.anchors c.waiting (with_slice p row covered large) (with_slice q row covered large) (sliced w s p row x sw) (sliced c s q row x sc)
slice_held changed k w c None p q row x covered large sw sc alike some h still = absurd cc
slice_held changed k w c (Some s) None None row x covered large sw sc alike some h still = h
slice_held changed k w c (Some s) None (Some q) row x covered large sw sc alike some h still = absurd h.«open»
slice_held changed k w c (Some s) (Some p) None row x covered large sw sc alike some h still = absurd h.«open»
slice_held changed k w c (Some s) (Some p) (Some q) row x covered large sw sc alike some h still =
    let a = slice_on (nat_eq row p.row) p row covered large in
    let b = slice_on (nat_eq row q.row) q row covered large in
    let f = on_slice (nat_eq row p.row) p row covered large refl in
    let g = on_slice (nat_eq row q.row) q row covered large refl in
    let o = h.«open» in
    let own = sliced_as (is_left_kind changed k p.info.kind) w c s p q a b row x sw sc alike o.0 (λ one. still s p refl refl one) f g (λ e. ap (λ (y : Open). slice_on (nat_eq row y.row) y row covered large) e) in
    let r : AreHeld changed k c.anchors c.waiting (Some a) (Some b) (sliced w (Some s) (Some p) row x sw) (sliced c (Some s) (Some q) row x sc) = record {
      count = h.count ∙ sym (count_same k q b row g);
      newer = h.newer;
      older = h.older;
      «open» = open_sliced changed k c.waiting p q a b row (sliced w (Some s) (Some p) row x sw) (sliced c (Some s) (Some q) row x sc) f own o.1;
    } in
    subst (λ (y : Option Open). AreHeld changed k c.anchors c.waiting y (with_slice (Some q) row covered large) (sliced w (Some s) (Some p) row x sw) (sliced c (Some s) (Some q) row x sc)) (sym (with_slice_is p row covered large))
    (subst (λ (y : Option Open). AreHeld changed k c.anchors c.waiting (Some a) y (sliced w (Some s) (Some p) row x sw) (sliced c (Some s) (Some q) row x sc)) (sym (with_slice_is q row covered large)) r)

-- and behind one of a picture that is left out
left_held : (changed left : Bool) (k : ℕ) (w : State) (waiting : Option FirstField) (anchors : ℕ) (s : Option Sequence) (p q : Open) (row : ℕ) (x : Slice) (covered large : ℕ) (sw sc : Store) → is_left_kind changed k p.info.kind ≡ left → IsLeftOut p q → (p ≡ q → ⊥)
    → AreHeld changed k anchors waiting (Some p) (Some q) sw sc → AreHeld changed k anchors waiting (with_slice (Some p) row covered large) (with_unread_slice (Some q) row) (sliced w s (Some p) row x sw) sc
left_held changed false k w waiting anchors s p q row x covered large sw sc e l differ h = absurd (differ (subst (λ (b : Bool). HeldAs b p q sw sc) e (h.«open»).0).0)
left_held changed true k w waiting anchors s p q row x covered large sw sc e l differ h =
    let a = slice_on (nat_eq row p.row) p row covered large in
    let b : Open = record q { has_slice = true; row = row } in
    let f = on_slice (nat_eq row p.row) p row covered large refl in
    let g = on_unread q row in
    let t = sliced_anchors w s (Some p) row x sw in
    let o = h.«open» in
    let own : HeldAs (is_left_kind changed k p.info.kind) a b (sliced w s (Some p) row x sw) sc = subst (λ (d : Bool). HeldAs d a b (sliced w s (Some p) row x sw) sc) (sym e) (still_left p q a b row l f g) in
    let r : AreHeld changed k anchors waiting (Some a) (Some b) (sliced w s (Some p) row x sw) sc = record {
      count = h.count ∙ sym (count_same k q b row g);
      newer = λ n. t.0 ∙ h.newer n;
      older = λ n. t.1 ∙ h.older n;
      «open» = open_sliced changed k waiting p q a b row (sliced w s (Some p) row x sw) sc f own o.1;
    } in
    subst (λ (y : Option Open). AreHeld changed k anchors waiting y (with_unread_slice (Some q) row) (sliced w s (Some p) row x sw) sc) (sym (with_slice_is p row covered large)) r

pub left_slice_held : (changed : Bool) (k : ℕ) (w : State) (waiting : Option FirstField) (anchors : ℕ) (s : Option Sequence) (p q : Open) (row : ℕ) (x : Slice) (covered large : ℕ) (sw sc : Store) → IsLeftOut p q → (p ≡ q → ⊥)
    → AreHeld changed k anchors waiting (Some p) (Some q) sw sc → AreHeld changed k anchors waiting (with_slice (Some p) row covered large) (with_unread_slice (Some q) row) (sliced w s (Some p) row x sw) sc
left_slice_held changed k w waiting anchors s p q row x covered large sw sc l differ h = left_held changed _ k w waiting anchors s p q row x covered large sw sc refl l differ h

unread_as : (left : Bool) (p q : Open) (row : ℕ) (sw sc : Store) → HeldAs left p q sw sc → HeldAs left (record p { has_slice = true; row = row }) (record q { has_slice = true; row = row }) sw sc
unread_as true p q row sw sc l = still_left p q _ _ row l (on_unread p row) (on_unread q row)
unread_as false p q row sw sc h = (ap (λ (y : Open). record y { has_slice = true; row = row }) h.0, h.1, h.2)

-- behind a slice that stays unread in both
pub unread_held : (changed : Bool) (k anchors : ℕ) (waiting : Option FirstField) (p q : Option Open) (row : ℕ) (sw sc : Store) → AreHeld changed k anchors waiting p q sw sc → AreHeld changed k anchors waiting (with_unread_slice p row) (with_unread_slice q row) sw sc
unread_held changed k anchors waiting None None row sw sc h = h
unread_held changed k anchors waiting None (Some q) row sw sc h = absurd h.«open»
unread_held changed k anchors waiting (Some p) None row sw sc h = absurd h.«open»
unread_held changed k anchors waiting (Some p) (Some q) row sw sc h =
    let o = h.«open» in
    record { count = h.count; newer = h.newer; older = h.older; «open» = (unread_as (is_left_kind changed k p.info.kind) p q row sw sc o.0, o.1) }
