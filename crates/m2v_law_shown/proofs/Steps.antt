-- One picture more of a group: what a decoder has at hand behind it, and what it has told.
use Rattle.std.proofs.Common.{◌≡◌, ℕ, zero, suc, ◌+◌, ◌*◌, ◌<◌, ◌≤◌, inl, inr, Bool, true, false, ◌||◌, cond, List, [], ◌∷◌, ◌++◌, length, map, filter, take, Option, Some, None, refl, sym, ap, subst, ◌∙◌, arith, append_assoc}
use Rattle.std.specs.Prelude.{nat_eq}
use Rattle.std.specs.List.{range_with_len}
use Rattle.std.proofs.lemmas.Bool.{cases_Bool, ne_eqb}
use Rattle.std.proofs.lemmas.List.{append-nil, map-append}
use Rattle.std.proofs.lemmas.List.Elements.{All-nil, All-cons, filter-append}
use Rattle.std.proofs.Math.Seq.{take-suc}
use Rattle.m2v_plane.specs.declared.planes.Lines.TheVariants.{Top, Bottom}
use Rattle.m2v_plane.specs.Samples.{Samples}
use Rattle.m2v_plane.specs.Raw.{crop}
use Rattle.m2v_pred.specs.Motion.{own_lines}
use Rattle.m2v_set.specs.Numbers.{dims_of}
use Rattle.m2v_order.specs.declared.jobs.PictureJob.{PictureJob}
use Rattle.m2v_order.proofs.Queues.{true_false}
use Rattle.m2v_slice.specs.Headers.{begins_group, picture_of, extension_of}
use Rattle.m2v_rate.specs.Plans.{Entries}
use Rattle.m2v_slice.specs.Books.{Book, no_job, rows, job_at, coded}
use Rattle.m2v_slice.specs.Conditions.{IsBook}
use Rattle.m2v_slice.proofs.Groups.{picture_is_one}
use Rattle.m2v_enc_stream.specs.Streams.{delay_at, pictures_text, frame_of}
use Rattle.m2v_enc_stream.specs.Removals.{coded_of, ledger_of}
use Rattle.m2v_enc_stream.specs.Sent.{sent_at}
use Rattle.m2v_model.specs.declared.state.Open.{Open}
use Rattle.m2v_model.specs.declared.state.State.{State}
use Rattle.m2v_model.specs.States.{is_frame_end, is_b}
use Rattle.m2v_model.specs.Samples.{References}
use Rattle.m2v_model.specs.Streams.{Part}
use Rattle.m2v_model.specs.Pictures.{Store, Picture, Pictures, Events, no_references, coded_picture, picture_ended, is_ending, typed, frames_in}
use Rattle.m2v_model.specs.Pictures as pictures
use Rattle.m2v_model.specs.Painting.{IsPainted}
use Rattle.m2v_enc_stream.specs.Trees.{task_at, picture_parts, pictures_parts}
use Rattle.m2v_enc_stream.specs.States.{open_at, waiting_behind, anchors_behind}
use Rattle.m2v_law_shown.specs.Views.{AreReferencesOf}
use Rattle.m2v_law_shown.specs.Rows.{rows_in, fresh_of, samples_of}
use Rattle.m2v_law_shown.specs.Stores.{frame_in, newer_behind, older_behind, FieldWaits}
use Rattle.m2v_law_shown.specs.Own.{IsPictureOf}
use Rattle.m2v_law_shown.specs.Telling.{headers, told, IsMade}
use Rattle.m2v_law_shown.specs.Told.{Made, job_in, picture_in, delay_in}
use Rattle.m2v_law_shown.specs.Runs.{Tells, IsKept, pending, settled, store_with, raw_of, raw_in, raw_behind}
use Rattle.m2v_law_shown.proofs.Shapes.{waits, Shape, shape_at}
use Rattle.m2v_law_shown.proofs.Frames.{frame_rebuilt, is_row, half_rows}
use Rattle.m2v_law_shown.proofs.Rows.{field_painted, fields_painted}
use Rattle.m2v_law_shown.proofs.Views.{newer_kept, older_kept, newer_ended, older_ended, ends_is, b_ends_none, first_ends_none}
use Rattle.m2v_law_shown.proofs.References.{references_are}
use Rattle.m2v_enc_stream.proofs.Turns.{IsCounted}
use Rattle.m2v_enc_stream.proofs.States.{state_at, references_at, next_sequence}
use Rattle.m2v_law_shown.proofs.Runs.{tells_on, tells_none, range_more}
use Rattle.m2v_law_shown.proofs.Heads.{Ready, BeginsWith, refs_at, picture_goes}

-- ---- where a picture ends

abbrev kept : Store → Option Samples → Store
kept store current = record { older = store.older; newer = store.newer; current = current; references = no_references }

left_b : (o : Open) (store : Store) (frame : Samples) (refs : References) → is_frame_end o ≡ true → is_b o.info.kind ≡ true → picture_ended (Some o) (store_with store frame refs) ≡ kept store None
left_b o store frame refs e f = rw (e, f) refl

left_anchor : (o : Open) (store : Store) (frame : Samples) (refs : References) → is_frame_end o ≡ true → is_b o.info.kind ≡ false
    → picture_ended (Some o) (store_with store frame refs) ≡ record { older = store.newer; newer = Some frame; current = None; references = no_references }
left_anchor o store frame refs e f = rw (e, f) refl

left_first : (o : Open) (store : Store) (frame : Samples) (refs : References) → is_frame_end o ≡ false → picture_ended (Some o) (store_with store frame refs) ≡ kept store (Some frame)
left_first o store frame refs e = rw e refl

-- the picture that is open once all its slices were read
abbrev whole : Book → Bool → ℕ → ℕ → ℕ → Open
whole b closed_one before p delay = open_at b.settings (job_at b p) delay (references_at b closed_one before p) (rows b)

module _ (b : Book) (closed_one : Bool) (before p delay : ℕ) where
  end_is : (structure : ℕ) → (job_at b p).structure ≡ structure → is_frame_end (whole b closed_one before p delay) ≡ (nat_eq structure 3 || nat_eq structure 2)
  unfolding open_at extension_of
  end_is structure e = ap (λ (n : ℕ). nat_eq n 3 || nat_eq n 2) e

  kind_is : (whole b closed_one before p delay).info.kind ≡ (job_at b p).kind
  unfolding open_at picture_of
  kind_is = refl

  -- what is told of it
  abbrev picture_told : (store : Store) (frame : Samples) (refs : References) → Picture
  picture_told store frame refs = pictures.picture_of (whole b closed_one before p delay) (store_with store frame refs)

  told_ends : (store : Store) (frame : Samples) (refs : References) → (picture_told store frame refs).ends_frame ≡ is_frame_end (whole b closed_one before p delay)
  unfolding pictures.picture_of
  told_ends store frame refs = refl

  told_kept : (store : Store) (frame : Samples) (refs : References) → (picture_told store frame refs).dropped ≡ false
  unfolding pictures.picture_of open_at
  told_kept store frame refs = refl

  told_raw : (store : Store) (frame : Samples) (refs : References) → raw_of (typed (picture_told store frame refs)) ≡ (crop frame, (job_at b p).kind)
  unfolding pictures.picture_of open_at picture_of
  told_raw store frame refs = refl

  told_delay : (store : Store) (frame : Samples) (refs : References) → (picture_told store frame refs).info.vbv_delay ≡ delay
  unfolding pictures.picture_of open_at picture_of
  told_delay store frame refs = refl

  told_own : (store : Store) (frame : Samples) (refs : References) → delay ≤ 65534 → IsPictureOf b.settings (job_at b p) (picture_told store frame refs)
  unfolding pictures.picture_of open_at extension_of
  told_own store frame refs small = record {
    delay = delay;
    constant = ne_eqb delay 65535 (λ e. omega (arith, e, small));
    info = refl;
    extension = refl;
    crowded = refl;
    begins_frame = refl;
    ends_frame = refl;
  }

-- a picture's last state lets the next one follow
next_ready : (b : Book) (closed_one : Bool) (before p delay : ℕ) → Ready b before (suc p) (state_at b closed_one before p delay (rows b))
next_ready b closed_one before p delay = record {
  behind = (closed_one, next_sequence b.settings closed_one (anchors_behind before b (suc p)) (waiting_behind b (suc p)) (Some (whole b closed_one before p delay)));
  plain = λ e. (closed_one, (Some (whole b closed_one before p delay), refl));
}

-- ---- the raw frames of pictures

pub raw_append : (made more : List Made) → raw_in (made ++ more) ≡ raw_in made ++ raw_in more
raw_append made more =
    let xs = map picture_in made in
    let ys = map picture_in more in
    ap (λ (ps : Pictures). map raw_of (frames_in ps)) (map-append picture_in made more)
    ∙ ap (λ (ps : Pictures). map raw_of (map typed ps)) (filter-append is_ending xs ys)
    ∙ ap (map raw_of) (map-append typed (filter is_ending xs) (filter is_ending ys))
    ∙ map-append raw_of (frames_in xs) (frames_in ys)

raw_last : (m : Made) (t : Bool) → m.1.ends_frame ≡ t → raw_in (m ∷ []) ≡ map raw_of (map typed (cond t (m.1 ∷ []) []))
raw_last m t e = ap (λ (u : Bool). map raw_of (map typed (cond u (m.1 ∷ []) []))) e

raw_more : (b : Book) (p : ℕ) (t : Bool)
    → nat_eq (job_at b p).structure 1 ≡ t → raw_behind b (suc p) ≡ raw_behind b p ++ cond t [] ((crop (frame_in b (job_at b p).frame), (job_at b p).kind) ∷ [])
unfolding raw_behind
raw_more b p t e = ap (λ (u : Bool). raw_behind b p ++ cond u [] ((crop (frame_in b (job_at b p).frame), (job_at b p).kind) ∷ [])) e

-- ---- one picture more

-- what is at hand behind the first p pictures of a group, and the raw frames that they ended
pub record Held (b : Book) (older : Option Samples) (p : ℕ) (store : Store) (made : List Made) : Type 0 where
  pub last : store.newer ≡ newer_behind b p
  pub oldest : store.older ≡ older_behind b older p
  pub current : p < length b.pictures → (job_at b p).structure ≡ 2 → FieldWaits b p store
  pub raw : raw_in made ≡ raw_behind b p

-- what is known behind the first p pictures of a group, which have these delays
pub record Upto (b : Book) (before : ℕ) (older : Option Samples) (delay : ℕ → ℕ) (start : State) (first : Store) (parts : List Part) (p : ℕ) : Type 0 where
  pub end : State
  pub store : Store
  pub made : List Made
  pub tells : Tells b.settings start first parts end store made
  pub ready : Ready b before p end
  pub held : Held b older p (settled end store) made
  pub jobs : map job_in made ≡ take p b.pictures
  pub delays : map delay_in made ≡ map delay (range_with_len 0 p)

module _ (b : Book) (h : IsBook b) (before : ℕ) (counted : IsCounted b before) (older : Option Samples) (delay : ℕ → ℕ)
    (start : State) (first : Store) (parts : List Part) (p : ℕ) (lt : p < length b.pictures) (u : Upto b before older delay start first parts p) where
  abbrev now : Store
  now = settled u.end u.store

  abbrev refs : References
  refs = refs_at b p now

  agree : (r : ℕ) → r < rows b → AreReferencesOf (task_at b p r) refs
  agree r small = references_are b h older p r now lt (record { last = u.held.last; before = u.held.oldest; current = u.held.current lt })

  -- the frame of a picture that begins in this one, and the picture
  abbrev frame_by : Bool → Samples → Samples
  frame_by c frame = rows_in (λ r. task_at b p r) (references_at b c before p) refs (rows b) frame

  abbrev made_by : Bool → Samples → Made
  made_by c frame = (job_at b p, picture_told b c before p (delay p) now (frame_by c frame) refs)

  abbrev store_by : Bool → Samples → Store
  store_by c frame = store_with now (frame_by c frame) refs

  abbrev HeldBy : Bool → Samples → Type 0
  HeldBy c frame = Held b older (suc p) (settled (state_at b c before p (delay p) (rows b)) (store_by c frame)) (u.made ++ made_by c frame ∷ [])

  -- behind a picture that ends its frame
  ended : (c : Bool) (frame : Samples) → frame_by c frame ≡ frame_in b (job_at b p).frame
      → (structure : ℕ) → (job_at b p).structure ≡ structure → (nat_eq structure 3 || nat_eq structure 2) ≡ true → nat_eq structure 1 ≡ false → HeldBy c frame
  ended c frame rebuilt structure is end not_first =
      let o = whole b c before p (delay p) in
      let f = frame_by c frame in
      let m = made_by c frame in
      let ends : is_frame_end o ≡ true = end_is b c before p (delay p) structure is ∙ end in
      let kind : is_b o.info.kind ≡ nat_eq (job_at b p).kind 3 = ap (λ (k : ℕ). nat_eq k 3) (kind_is b c before p (delay p)) in
      let anchor = λ (k : nat_eq (job_at b p).kind 3 ≡ false). ends_is b p structure k is not_first in
      let raw : raw_of (typed m.1) ≡ (crop (frame_in b (job_at b p).frame), (job_at b p).kind) =
      told_raw b c before p (delay p) now f refs ∙ ap (λ (s : Samples). (crop s, (job_at b p).kind)) rebuilt in
      record {
        last = elim (cases_Bool (nat_eq (job_at b p).kind 3)) [
          | inl k ↦ ap (λ (s : Store). s.newer) (left_b o now f refs ends (kind ∙ k)) ∙ u.held.last ∙ sym (newer_kept b older p (b_ends_none b p k))
          | inr k ↦ ap (λ (s : Store). s.newer) (left_anchor o now f refs ends (kind ∙ k)) ∙ ap Some rebuilt ∙ sym (newer_ended b older p (anchor k))
        ];
        oldest = elim (cases_Bool (nat_eq (job_at b p).kind 3)) [
          | inl k ↦ ap (λ (s : Store). s.older) (left_b o now f refs ends (kind ∙ k)) ∙ u.held.oldest ∙ sym (older_kept b older p (b_ends_none b p k))
          | inr k ↦ ap (λ (s : Store). s.older) (left_anchor o now f refs ends (kind ∙ k)) ∙ u.held.last ∙ sym (older_ended b older p (anchor k))
        ];
        current = λ small two. absurd (no_second (suc p) small two (ap (λ (n : ℕ). nat_eq n 1) is ∙ not_first));
        raw = raw_append u.made (m ∷ [])
            ∙ ap (λ (fs : List (List ℕ × ℕ)). raw_in u.made ++ fs) (raw_last m true (told_ends b c before p (delay p) now f refs ∙ ends))
            ∙ (λ i. u.held.raw i ++ raw i ∷ []) ∙ sym (raw_more b p false (ap (λ (n : ℕ). nat_eq n 1) is ∙ not_first));
      }
    where
      no_second : (q : ℕ) → q < length b.pictures → (job_at b q).structure ≡ 2 → waits b.pictures q ≡ false → ⊥
      no_second q small two free = by_shape (shape_at b h q small)
        where
          by_shape : Shape b.pictures q → ⊥
          by_shape (inl s) = let three = s.1 in omega (arith, two, three)
          by_shape (inr (inl s)) = let one = s.1 in omega (arith, two, one)
          by_shape (inr (inr s)) = true_false (waits b.pictures q) s.0 free

  -- behind a first field
  begun : (c : Bool) → (job_at b p).structure ≡ 1 → HeldBy c (fresh_of b)
  begun c one =
      let o = whole b c before p (delay p) in
      let list = references_at b c before p in
      let f = frame_by c (fresh_of b) in
      let m = made_by c (fresh_of b) in
      let ends : is_frame_end o ≡ false = end_is b c before p (delay p) 1 one in
      let none = first_ends_none b p one in
      let left = left_first o now f refs ends in
      let d = dims_of b.settings in
      let painted = field_painted (λ r. task_at b p r) d (rows b) list refs (samples_of b (coded b (length b.pictures)) (job_at b p).frame)
      (λ r small. is_row b h p lt Top refs r (ap own_lines one) small (agree r small)) in
      record {
        last = ap (λ (s : Store). s.newer) left ∙ u.held.last ∙ sym (newer_kept b older p none);
        oldest = ap (λ (s : Store). s.older) left ∙ u.held.oldest ∙ sym (older_kept b older p none);
        current = λ small two. record {
          frame = f;
          current = ap (λ (s : Store). s.current) left;
          painted = subst (λ (k : ℕ). IsPainted Top d (rows b * d.mb_width) (samples_of b (coded b (length b.pictures)) k) f)
              (second_frame (shape_at b h (suc p) small) two) painted;
        };
        raw = raw_append u.made (m ∷ [])
            ∙ ap (λ (fs : List (List ℕ × ℕ)). raw_in u.made ++ fs) (raw_last m false (told_ends b c before p (delay p) now f refs ∙ ends))
            ∙ (λ i. u.held.raw i ++ []) ∙ sym (raw_more b p true (ap (λ (n : ℕ). nat_eq n 1) one));
      }
    where
      second_frame : Shape b.pictures (suc p) → (job_at b (suc p)).structure ≡ 2 → (job_at b p).frame ≡ (job_at b (suc p)).frame
      second_frame (inl s) two = let three = s.1 in absurd (omega (arith, two, three))
      second_frame (inr (inl s)) two = let single = s.1 in absurd (omega (arith, two, single))
      second_frame (inr (inr s)) two = s.1.frame

  -- behind a picture that begins in this frame
  more_by : (l : Entries) (at : ℕ) → delay p ≡ delay_at l (job_at b p) p at → delay p ≤ 65534 → (frame : Samples)
      → BeginsWith b p now frame → ((c : Bool) → HeldBy c frame)
      → Upto b before older delay start first (parts ++ picture_parts b l at p) (suc p)
  more_by l at same small frame begins held =
      let s = b.settings in
      let x = picture_goes b h before p (delay p) counted lt l at u.end u.store frame same u.ready begins in
      let c = x.closed_one in
      let m = made_by c frame in
      let es = pending u.end u.store in
      let heads = headers s (job_at b p) (begins_group (job_at b p)) in
      let one : Tells s u.end u.store (picture_parts b l at p) (state_at b c before p (delay p) (rows b)) (store_by c frame) (m ∷ []) = record {
        es = es ++ heads;
        goes = x.goes;
        known = append_assoc es heads (coded_picture m.1 ∷ []) ∙ ap (λ (ys : Events). es ++ ys) (sym (append-nil (told s m)));
        are = All-cons (IsMade s) m [] (told_own b c before p (delay p) now (frame_by c frame) refs small) (All-nil (IsMade s));
        kept = All-cons IsKept m [] (told_kept b c before p (delay p) now (frame_by c frame) refs) (All-nil IsKept);
      } in
      record {
        end = state_at b c before p (delay p) (rows b);
        store = store_by c frame;
        made = u.made ++ m ∷ [];
        tells = tells_on u.tells one;
        ready = next_ready b c before p (delay p);
        held = held c;
        jobs = map-append job_in u.made (m ∷ []) ∙ ap (λ (js : List PictureJob). js ++ job_at b p ∷ []) u.jobs ∙ sym (take-suc b.pictures p no_job lt);
        delays = map-append delay_in u.made (m ∷ [])
            ∙ (λ i. u.delays i ++ told_delay b c before p (delay p) now (frame_by c frame) refs i ∷ []) ∙ sym (range_more delay p);
      }

  begins_fresh : (structure : ℕ) → (job_at b p).structure ≡ structure → nat_eq structure 2 ≡ false → BeginsWith b p now (fresh_of b)
  begins_fresh structure is other = record {
    second = λ e. absurd (true_false (nat_eq (job_at b p).structure 2) e (ap (λ (n : ℕ). nat_eq n 2) is ∙ other));
    first = λ e. refl;
  }

  -- whatever it is
  one_more : (l : Entries) (at : ℕ) → delay p ≡ delay_at l (job_at b p) p at → delay p ≤ 65534
      → Upto b before older delay start first (parts ++ picture_parts b l at p) (suc p)
  unfolding frame_of dims_of
  one_more l at same small = by_shape (shape_at b h p lt)
    where
      by_shape : Shape b.pictures p → Upto b before older delay start first (parts ++ picture_parts b l at p) (suc p)
      by_shape (inl s) =
          more_by l at same small (fresh_of b) (begins_fresh 3 s.1 refl)
          (λ c. ended c (fresh_of b) (frame_rebuilt b p (references_at b c before p) refs h lt s.1 agree) 3 s.1 refl refl)
      by_shape (inr (inl s)) = more_by l at same small (fresh_of b) (begins_fresh 1 s.1 refl) (λ c. begun c s.1)
      by_shape (inr (inr s)) =
          let two = s.1.structure in
          let waiting = u.held.current lt two in
          let half = half_rows b.settings.scan b.settings.height (job_at b p).structure (picture_is_one b h p lt).structure (omega (arith, two)) in
          more_by l at same small waiting.frame
          (record { second = λ e. waiting.current; first = λ e. absurd (true_false (nat_eq (job_at b p).structure 2) (ap (λ (n : ℕ). nat_eq n 2) two) e) })
          (λ c. ended c waiting.frame
          (fields_painted (λ r. task_at b p r) (dims_of b.settings) (rows b) (references_at b c before p) refs
          (samples_of b (coded b (length b.pictures)) (job_at b p).frame) waiting.frame half waiting.painted
          (λ r less. is_row b h p lt Bottom refs r (ap own_lines two) less (agree r less))) 2 two refl refl)

-- the delay of a picture of a group that begins at a bit of the stream
abbrev pub delay_from : Book → Bool → ℕ → ℕ → ℕ
delay_from b ends at p = (sent_at b ends at 0 p).delay

-- all pictures of a group
pub pictures_go : (b : Book) → IsBook b → (before : ℕ) → IsCounted b before → (start : State) (first : Store)
    → Ready b before 0 start → (settled start first).newer ≡ b.before
    → (ends : Bool) (at : ℕ) → ((p : ℕ) → p < length b.pictures → delay_from b ends at p ≤ 65534) → (n : ℕ) → n ≤ length b.pictures
    → Upto b before (settled start first).older (delay_from b ends at) start first (pictures_parts b (coded_of b) (ledger_of b) ends at n) n
unfolding pictures_parts newer_behind older_behind raw_behind
pictures_go b h before counted start first ready last ends at small zero le = record {
  end = start;
  store = first;
  made = [];
  tells = tells_none b.settings start first;
  ready = ready;
  held = record { last = last; oldest = refl; current = λ less two. absurd (by_shape two (shape_at b h 0 less)); raw = refl };
  jobs = refl;
  delays = refl;
}
  where
    by_shape : (job_at b 0).structure ≡ 2 → Shape b.pictures 0 → ⊥
    by_shape two (inl s) = let three = s.1 in omega (arith, two, three)
    by_shape two (inr (inl s)) = let single = s.1 in omega (arith, two, single)
    by_shape two (inr (inr s)) = true_false false s.0 refl
pictures_go b h before counted start first ready last ends at small (suc n) le =
    let lt : n < length b.pictures = omega (arith, le) in
    one_more b h before counted (settled start first).older (delay_from b ends at) start first (pictures_parts b (coded_of b) (ledger_of b) ends at n) n lt
    (pictures_go b h before counted start first ready last ends at small n (omega (arith, le)))
    (ledger_of b) (at + length (pictures_text b (coded_of b) (ledger_of b) ends at n)) refl (small n lt)
