-- Parts one behind another: what they do to the frames at hand, and what they tell.
use Rattle.std.proofs.Common.{◌≡◌, ℕ, zero, suc, ◌+◌, ◌*◌, ◌<◌, ◌≤◌, Bool, List, [], ◌∷◌, ◌++◌, length, map, refl, sym, ap, subst, ◌∙◌, arith, append_assoc}
use Rattle.std.specs.List.{range_with_len}
use Rattle.std.proofs.lemmas.Grind.{flat_map-append}
use Rattle.std.proofs.lemmas.List.{append-nil, map-append}
use Rattle.std.proofs.lemmas.List.Elements.{All-nil, All-append}
use Rattle.m2v_plane.specs.Samples.{Samples}
use Rattle.m2v_set.specs.declared.settings.Settings.{Settings}
use Rattle.m2v_set.specs.Numbers.{mb_width_of}
use Rattle.m2v_order.proofs.Orders.{range_append}
use Rattle.m2v_slice.specs.Headers.{context_of}
use Rattle.m2v_slice.specs.Books.{Book, rows, job_at, task_of}
use Rattle.m2v_slice.specs.Conditions.{IsBook}
use Rattle.m2v_model.specs.declared.state.State.{State}
use Rattle.m2v_model.specs.Slices.{slice_start}
use Rattle.m2v_model.specs.Samples.{References, put_in_frame, all_painted}
use Rattle.m2v_model.specs.Streams.{Part, slice, after}
use Rattle.m2v_model.specs.Pictures.{Store, Events, slice_painted, told_by, store_after, events_from, store_from}
use Rattle.m2v_enc_stream.specs.Slices.{slice_read}
use Rattle.m2v_enc_stream.specs.Trees.{sequence_by, task_at, slice_parts, state_behind}
use Rattle.m2v_enc_stream.specs.States.{open_at}
use Rattle.m2v_law_shown.specs.Views.{slice_in}
use Rattle.m2v_law_shown.specs.Rows.{rows_in}
use Rattle.m2v_law_shown.specs.Telling.{told, told_all, IsMade}
use Rattle.m2v_law_shown.specs.Told.{Made}
use Rattle.m2v_law_shown.specs.Runs.{Goes, Tells, IsKept, pending, store_with}
use Rattle.m2v_enc_stream.proofs.States.{state_at, references_at, covered_is, slice_after, setup_at}
use Rattle.m2v_enc_stream.proofs.TreeStreams.{state_on}
use Rattle.m2v_law_shown.proofs.Frames.{slice_is_one}
use Rattle.m2v_enc_stream.proofs.Slices.{none_large}

-- ---- one run behind another

store_on : (st : State) (store : Store) (ps qs : List Part) → store_from st store (ps ++ qs) ≡ store_from (state_behind st ps) (store_from st store ps) qs
unfolding state_behind store_from
store_on st store [] qs = refl
store_on st store (p ∷ ps) qs = store_on (after st p) (store_after st store p) ps qs

events_on : (st : State) (store : Store) (ps qs : List Part)
    → events_from st store (ps ++ qs) ≡ events_from st store ps ++ events_from (state_behind st ps) (store_from st store ps) qs
unfolding state_behind store_from events_from
events_on st store [] qs = refl
events_on st store (p ∷ ps) qs =
    let here = told_by st store p in
    let next = after st p in
    let left = store_after st store p in
    ap (λ (es : Events). here ++ es) (events_on next left ps qs)
    ∙ sym (append_assoc here (events_from next left ps) (events_from (state_behind next ps) (store_from next left ps) qs))

pub goes_on : {a b c : State} {s t u : Store} {ps qs : List Part} {es fs : Events}
    → Goes a s ps b t es → Goes b t qs c u fs → Goes a s (ps ++ qs) c u (es ++ fs)
goes_on {a} {b} {c} {s} {t} {u} {ps} {qs} {es} {fs} x y = record {
  state = state_on a ps qs ∙ ap (λ (z : State). state_behind z qs) x.state ∙ y.state;
  frames = store_on a s ps qs ∙ (λ i. store_from (x.state i) (x.frames i) qs) ∙ y.frames;
  events = events_on a s ps qs ∙ (λ i. x.events i ++ events_from (x.state i) (x.frames i) qs) ∙ ap (λ (gs : Events). es ++ gs) y.events;
}

pub goes_none : (st : State) (store : Store) → Goes st store [] st store []
unfolding state_behind store_from events_from
goes_none st store = record { state = refl; frames = refl; events = refl }

-- one part
pub goes_one : (st : State) (store : Store) (p : Part) (end : State) (left : Store) (es : Events)
    → after st p ≡ end → store_after st store p ≡ left → told_by st store p ≡ es → Goes st store (p ∷ []) end left es
unfolding state_behind store_from events_from
goes_one st store p end left es a b c = record { state = a; frames = b; events = append-nil (told_by st store p) ∙ c }

-- ---- what is told of jobs

-- What is told lags: of two runs one behind the other, what is told and what is still held is what was held and all of both.
known_on : {T : Type 0} (t u p q w a c : List T) → t ++ q ≡ p ++ a → u ++ w ≡ q ++ c → (t ++ u) ++ w ≡ p ++ (a ++ c)
known_on {T} t u p q w a c e f =
    append_assoc t u w ∙ ap (λ (xs : List T). t ++ xs) f ∙ sym (append_assoc t q c) ∙ ap (λ (xs : List T). xs ++ c) e ∙ append_assoc p a c

pub tells_on : {s : Settings} {a b c : State} {t u v : Store} {ps qs : List Part} {made more : List Made}
    → Tells s a t ps b u made → Tells s b u qs c v more → Tells s a t (ps ++ qs) c v (made ++ more)
tells_on {s} {a} {b} {c} {t} {u} {v} {ps} {qs} {made} {more} x y = record {
  es = x.es ++ y.es;
  goes = goes_on x.goes y.goes;
  known = known_on x.es y.es (pending a t) (pending b u) (pending c v) (told_all s made) (told_all s more) x.known y.known
      ∙ ap (λ (es : Events). pending a t ++ es) (sym (flat_map-append (told s) made more));
  are = All-append (IsMade s) made more x.are y.are;
  kept = All-append IsKept made more x.kept y.kept;
}

pub tells_none : (s : Settings) (st : State) (store : Store) → Tells s st store [] st store []
tells_none s st store = record {
  es = [];
  goes = goes_none st store;
  known = sym (append-nil (pending st store));
  are = All-nil (IsMade s);
  kept = All-nil IsKept;
}

-- ---- slices

-- one more
pub range_more : {A : Type 0} (f : ℕ → A) (n : ℕ) → map f (range_with_len 0 (suc n)) ≡ map f (range_with_len 0 n) ++ f n ∷ []
range_more f n =
    let e : suc n ≡ n + 1 = omega arith in
    ap (λ (k : ℕ). map f (range_with_len 0 k)) e ∙ ap (map f) (range_append 0 n 1)
    ∙ ap (λ (k : ℕ). map f (range_with_len 0 n ++ k ∷ [])) (let z : 0 + n ≡ n = omega arith in z)
    ∙ map-append f (range_with_len 0 n) (n ∷ [])

module _ (b : Book) (h : IsBook b) (closed_one : Bool) (before p delay : ℕ) (lt : p < length b.pictures) where
  task_row : (n : ℕ) → n ≡ (task_at b p n).row
  unfolding task_of
  task_row n = refl

  task_count : (n : ℕ) → n * mb_width_of b.settings ≡ (task_at b p n).row * (task_at b p n).context.columns
  unfolding task_of context_of
  task_count n = refl

  quantiser_is : (n : ℕ) → (slice_read (task_at b p n)).info.quantiser ≡ (task_at b p n).q
  unfolding slice_read
  quantiser_is n = refl

  painted_is : (n : ℕ) (refs : References) (frame : Samples)
      → slice_painted (state_at b closed_one before p delay n) (sequence_by b.settings) (open_at b.settings (job_at b p) delay (references_at b closed_one before p) n) refs n (slice_read (task_at b p n)) frame
      ≡ slice_in (task_at b p n) (references_at b closed_one before p) refs frame
  unfolding slice_painted
  painted_is n refs frame =
      let o = open_at b.settings (job_at b p) delay (references_at b closed_one before p) n in
      let setup = sym (setup_at b h closed_one before p delay n n lt) in
      let covered = covered_is b.settings (job_at b p) delay (references_at b closed_one before p) n ∙ task_count n in
      let row = task_row n in
      let q = quantiser_is n in
      λ i. all_painted put_in_frame (setup i) refs (slice_start (setup i).context (row i) (covered i) (q i)) (slice_read (task_at b p n)).macroblocks frame

  slice_goes : (n : ℕ) (store : Store) (refs : References) (frame : Samples) → n < rows b
      → Goes (state_at b closed_one before p delay n) (store_with store frame refs) (slice n (slice_read (task_at b p n)) ∷ [])
      (state_at b closed_one before p delay (suc n)) (store_with store (slice_in (task_at b p n) (references_at b closed_one before p) refs frame) refs) []
  slice_goes n store refs frame small =
      goes_one (state_at b closed_one before p delay n) (store_with store frame refs) (slice n (slice_read (task_at b p n))) _ _ []
      (slice_after b closed_one before p delay n (none_large (task_at b p n) (slice_is_one b h p lt n small)))
      (ap (λ (x : Samples). store_with store x refs) (painted_is n refs frame)) refl

  pub slices_go : (n : ℕ) (store : Store) (refs : References) (frame : Samples) → n ≤ rows b
      → Goes (state_at b closed_one before p delay 0) (store_with store frame refs) (slice_parts b p n)
      (state_at b closed_one before p delay n) (store_with store (rows_in (λ r. task_at b p r) (references_at b closed_one before p) refs n frame) refs) []
  unfolding rows_in
  slices_go zero store refs frame le = goes_none (state_at b closed_one before p delay 0) (store_with store frame refs)
  slices_go (suc n) store refs frame le =
      let tasks = λ (r : ℕ). task_at b p r in
      let list = references_at b closed_one before p in
      let now = rows_in tasks list refs n frame in
      let end = state_at b closed_one before p delay (suc n) in
      let left = store_with store (slice_in (task_at b p n) list refs now) refs in
      subst (λ (ps : List Part). Goes (state_at b closed_one before p delay 0) (store_with store frame refs) ps end left [])
      (sym (range_more (λ (r : ℕ). slice r (slice_read (tasks r))) n))
      (goes_on (slices_go n store refs frame (omega (arith, le))) (slice_goes n store refs now (omega (arith, le))))
