-- The headers of a picture, and the whole picture: what they do to the frames at hand, and what they tell.
use Rattle.std.proofs.Common.{◌≡◌, ℕ, ◌-◌, ◌<◌, Bool, true, false, cond, List, [], ◌∷◌, ◌++◌, length, Option, Some, None, refl, sym, ap, subst, ◌∙◌, arith, append_assoc}
use Rattle.std.specs.Prelude.{nat_eq}
use Rattle.std.proofs.lemmas.Bool.{cond-false}
use Rattle.std.proofs.lemmas.List.{append-nil}
use Rattle.m2v_plane.specs.declared.dims.Dims.{Dims}
use Rattle.m2v_plane.specs.Samples.{Samples, blank}
use Rattle.m2v_head.specs.declared.group.GroupInfo.{GroupInfo}
use Rattle.m2v_slice.specs.Headers.{begins_group, group_from, picture_of, extension_of}
use Rattle.m2v_rate.specs.Plans.{Entries}
use Rattle.m2v_slice.specs.Books.{Book, rows, job_at}
use Rattle.m2v_slice.specs.Conditions.{IsBook}
use Rattle.m2v_enc_stream.specs.Streams.{delay_at}
use Rattle.m2v_model.specs.declared.state.Open.{Open}
use Rattle.m2v_model.specs.declared.state.State.{State}
use Rattle.m2v_model.specs.States as model
use Rattle.m2v_model.specs.States.{opened}
use Rattle.m2v_model.specs.Samples.{References}
use Rattle.m2v_model.specs.Streams.{Part, sequence, group, picture, after}
use Rattle.m2v_model.specs.Pictures.{Store, Events, references_by, references_of, fresh, sequence_header, group_header, closed, picture_ended, picture_begun}
use Rattle.m2v_enc_stream.specs.Trees.{sequence_by, header_parts, task_at, slice_parts, picture_parts}
use Rattle.m2v_enc_stream.specs.States.{open_at, waiting_behind, anchors_behind}
use Rattle.m2v_law_shown.specs.Rows.{rows_in, fresh_of}
use Rattle.m2v_law_shown.specs.Telling.{headers}
use Rattle.m2v_law_shown.specs.Runs.{Goes, pending, settled, store_with}
use Rattle.m2v_enc_stream.proofs.Turns.{IsCounted}
use Rattle.m2v_enc_stream.proofs.States.{dims_are, state_before, state_at, references_at, read_is, next_group, header_after}
use Rattle.m2v_law_shown.proofs.Runs.{goes_on, goes_one, slices_go}

-- a state in which picture p of a group can follow
pub record Ready (b : Book) (before p : ℕ) (st : State) : Type 0 where
  pub behind : (closed_one : Bool) × (after st (sequence (sequence_by b.settings)) ≡ state_before b closed_one before p None)
  pub plain : begins_group (job_at b p) ≡ false → (closed_one : Bool) × ((open_one : Option Open) × (st ≡ state_before b closed_one before p open_one))

-- the references of a picture from the frames at hand
abbrev pub refs_at : Book → ℕ → Store → References
refs_at b p store = references_by (job_at b p).kind (nat_eq (job_at b p).structure 2) (job_at b p).structure store

-- the frames at hand where a picture begins in this frame
abbrev pub begun_at : Book → ℕ → Store → Samples → Store
begun_at b p store frame = store_with store frame (refs_at b p store)

begun_by : Option Open → Book → Store → Store
begun_by (Some o) b store = picture_begun (Some (sequence_by b.settings)) o store
begun_by None b store = store

-- the frame that a picture begins with: of a second field that of the first one
pub record BeginsWith (b : Book) (p : ℕ) (store : Store) (frame : Samples) : Type 0 where
  pub second : nat_eq (job_at b p).structure 2 ≡ true → store.current ≡ Some frame
  pub first : nat_eq (job_at b p).structure 2 ≡ false → fresh_of b ≡ frame

fresh_is : (b : Book) (p delay : ℕ) (list : List Bool) (store : Store) (frame : Samples) → BeginsWith b p store frame
    → fresh (sequence_by b.settings) (open_at b.settings (job_at b p) delay list 0) store.current ≡ Some frame
unfolding open_at
fresh_is b p delay list store frame begins = by_field (nat_eq (job_at b p).structure 2) begins.second begins.first
  where
    sized : blank (model.dims_of (sequence_by b.settings)) (model.dims_of (sequence_by b.settings)).mb_rows ≡ fresh_of b
    sized = ap (λ (d : Dims). blank d d.mb_rows) (dims_are b.settings)

    by_field : (t : Bool) → (t ≡ true → store.current ≡ Some frame) → (t ≡ false → fresh_of b ≡ frame)
        → cond t store.current (Some (blank (model.dims_of (sequence_by b.settings)) (model.dims_of (sequence_by b.settings)).mb_rows)) ≡ Some frame
    by_field true f g = f refl
    by_field false f g = ap Some (sized ∙ g refl)

references_is : (b : Book) (p delay : ℕ) (list : List Bool) (store : Store) → references_of (open_at b.settings (job_at b p) delay list 0) store ≡ refs_at b p store
unfolding open_at picture_of extension_of
references_is b p delay list store = refl

begun_is : (b : Book) (p delay : ℕ) (list : List Bool) (store : Store) (frame : Samples) → BeginsWith b p store frame
    → begun_by (Some (open_at b.settings (job_at b p) delay list 0)) b store ≡ begun_at b p store frame
unfolding begun_by
begun_is b p delay list store frame begins =
    let s = sequence_by b.settings in
    let o = open_at b.settings (job_at b p) delay list 0 in
    let current = fresh_is b p delay list store frame begins in
    let refs = references_is b p delay list store in
    cond-false o.slices_unread (record store { current = None }) (record store { current = fresh s o store.current; references = references_of o store }) (read_is b.settings (job_at b p) delay list 0)
    ∙ (λ i. record { older = store.older; newer = store.newer; current = current i; references = refs i })

picture_in : (st : State) (info : _) (extension : _) → (after st (picture info extension)).picture ≡ Some (opened st info extension)
unfolding after
picture_in st info extension = refl

module _ (b : Book) (h : IsBook b) (before p delay : ℕ) (counted : IsCounted b before) (lt : p < length b.pictures) where
  opened_is : (c : Bool) (o : Option Open) → Some (opened (state_before b c before p o) (picture_of (job_at b p) delay) (extension_of b.settings (job_at b p))) ≡ Some (open_at b.settings (job_at b p) delay (references_at b c before p) 0)
  opened_is c o =
      sym (picture_in (state_before b c before p o) (picture_of (job_at b p) delay) (extension_of b.settings (job_at b p)))
      ∙ ap (λ (z : State). z.picture) (header_after b h c before p delay o counted lt)

  -- its own header
  one_goes : (closed_one : Bool) (open_one : Option Open) (store : Store) (frame : Samples) (es : Events)
      → closed open_one store ≡ es → BeginsWith b p (picture_ended open_one store) frame
      → Goes (state_before b closed_one before p open_one) store (picture (picture_of (job_at b p) delay) (extension_of b.settings (job_at b p)) ∷ [])
      (state_at b closed_one before p delay 0) (begun_at b p (picture_ended open_one store) frame) es
  unfolding begun_by
  one_goes closed_one open_one store frame es told begins =
      let info = picture_of (job_at b p) delay in
      let extension = extension_of b.settings (job_at b p) in
      let next = header_after b h closed_one before p delay open_one counted lt in
      goes_one (state_before b closed_one before p open_one) store (picture info extension) _ _ es next
      (ap (λ (o : Option Open). begun_by o b (picture_ended open_one store)) (opened_is closed_one open_one)
      ∙ begun_is b p delay (references_at b closed_one before p) (picture_ended open_one store) frame begins)
      told

  -- headers lead to a picture that begins in this frame, and tell what was open, and then these events
  pub record Headed (st : State) (store : Store) (frame : Samples) (parts : List Part) (es : Events) : Type 0 where
    pub closed_one : Bool
    pub goes : Goes st store parts (state_at b closed_one before p delay 0) (begun_at b p (settled st store) frame) (pending st store ++ es)

  -- behind the headers of a group, where it begins one
  group_goes : (st : State) (store : Store) (frame : Samples) (closed_one : Bool)
      → after st (sequence (sequence_by b.settings)) ≡ state_before b closed_one before p None
      → BeginsWith b p (settled st store) frame → (g : GroupInfo)
      → Headed st store frame (sequence (sequence_by b.settings) ∷ group g ∷ picture (picture_of (job_at b p) delay) (extension_of b.settings (job_at b p)) ∷ [])
      (sequence_header (sequence_by b.settings) ∷ group_header g ∷ [])
  group_goes st store frame closed_one behind begins g =
      let s = sequence_by b.settings in
      let now = settled st store in
      let first = goes_one st store (sequence s) (state_before b closed_one before p None) now (pending st store ++ sequence_header s ∷ []) behind refl refl in
      let second = goes_one (state_before b closed_one before p None) now (group g) (state_before b g.closed_gop before p None) now (group_header g ∷ [])
      (next_group b.settings closed_one (anchors_behind before b p) (waiting_behind b p) None g) refl refl in
      let all = goes_on first (goes_on second (one_goes g.closed_gop None now frame [] refl begins)) in
      record {
        closed_one = g.closed_gop;
        goes = subst (Goes st store _ (state_at b g.closed_gop before p delay 0) (begun_at b p now frame))
            (append_assoc (pending st store) (sequence_header s ∷ []) (group_header g ∷ [])) all;
      }

  plain_goes : (st : State) (store : Store) (frame : Samples) (closed_one : Bool) (open_one : Option Open) → st ≡ state_before b closed_one before p open_one
      → BeginsWith b p (settled st store) frame → Headed st store frame (picture (picture_of (job_at b p) delay) (extension_of b.settings (job_at b p)) ∷ []) []
  plain_goes st store frame closed_one open_one is =
      let parts = picture (picture_of (job_at b p) delay) (extension_of b.settings (job_at b p)) ∷ [] in
      subst (λ (z : State). BeginsWith b p (settled z store) frame → Headed z store frame parts []) (sym is)
      (λ begins. record { closed_one = closed_one; goes = one_goes closed_one open_one store frame _ (sym (append-nil (closed open_one store))) begins })

  headed : (st : State) (store : Store) (frame : Samples) → Ready b before p st → BeginsWith b p (settled st store) frame
      → Headed st store frame (header_parts b.settings (job_at b p) delay) (headers b.settings (job_at b p) (begins_group (job_at b p)))
  unfolding header_parts
  headed st store frame ready begins = by_begin (begins_group (job_at b p)) refl
    where
      by_begin : (x : Bool) → begins_group (job_at b p) ≡ x
          → Headed st store frame
          (cond x (sequence (sequence_by b.settings) ∷ group (group_from b.settings ((job_at b p).display - (job_at b p).frame)) ∷ []) []
          ++ picture (picture_of (job_at b p) delay) (extension_of b.settings (job_at b p)) ∷ [])
          (headers b.settings (job_at b p) x)
      by_begin true e = group_goes st store frame ready.behind.0 ready.behind.1 begins (group_from b.settings ((job_at b p).display - (job_at b p).frame))
      by_begin false e = let x = ready.plain e in plain_goes st store frame x.0 x.1.0 x.1.1 begins

  -- the whole picture
  pub record PictureGoes (st : State) (store : Store) (frame : Samples) (parts : List Part) : Type 0 where
    pub closed_one : Bool
    pub goes : Goes st store parts (state_at b closed_one before p delay (rows b))
        (store_with (settled st store)
        (rows_in (λ r. task_at b p r) (references_at b closed_one before p) (refs_at b p (settled st store)) (rows b) frame) (refs_at b p (settled st store)))
        (pending st store ++ headers b.settings (job_at b p) (begins_group (job_at b p)))

  pub picture_goes : (l : Entries) (at : ℕ) (st : State) (store : Store) (frame : Samples)
      → delay ≡ delay_at l (job_at b p) p at → Ready b before p st → BeginsWith b p (settled st store) frame
      → PictureGoes st store frame (picture_parts b l at p)
  unfolding picture_parts
  picture_goes l at st store frame same ready begins =
      let head = headed st store frame ready begins in
      let rest = slices_go b h head.closed_one before p delay lt (rows b) (settled st store) (refs_at b p (settled st store)) frame (omega arith) in
      let es = pending st store ++ headers b.settings (job_at b p) (begins_group (job_at b p)) in
      subst (λ (n : ℕ). PictureGoes st store frame (header_parts b.settings (job_at b p) n ++ slice_parts b p (rows b))) same
      (record { closed_one = head.closed_one; goes = subst (Goes st store _ _ _) (append-nil es) (goes_on head.goes rest) })
