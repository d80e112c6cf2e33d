-- What is told of the encoder's groups, numbered.
use Rattle.std.proofs.Common.{◌≡◌, ℕ, ◌+◌, Bool, true, false, cond, List, [], ◌∷◌, ◌++◌, map, refl, sym, ap, subst, ◌∙◌, Option, Some, None}
use Rattle.std.specs.Prelude.{All}
use Rattle.std.proofs.lemmas.List.Elements.{All-nil, All-cons, All-head, All-tail}
use Rattle.m2v_set.specs.declared.settings.Settings.{Settings}
use Rattle.m2v_set.specs.Rules.{Passes}
use Rattle.m2v_order.specs.declared.jobs.PictureJob.{PictureJob}
use Rattle.m2v_order.specs.Groups.{Group}
use Rattle.m2v_order.specs.Calls.{jobs_in}
use Rattle.m2v_order.specs.Whole.{IsGroupOf}
use Rattle.m2v_slice.specs.Headers.{begins_group}
use Rattle.m2v_model.specs.declared.state.Sequence.{Sequence}
use Rattle.m2v_model.specs.Pictures.{Picture, Events, coded_picture}
use Rattle.m2v_model.specs.Lawful.{Numbered, numbered, sequences_in, breaches}
use Rattle.m2v_law_shown.specs.Own.{own_sequence}
use Rattle.m2v_law_shown.specs.Places.{behind, AreOwn, behind_all, AreOwnGroups}
use Rattle.m2v_law_shown.specs.Telling.{headers, told_all, IsMade}
use Rattle.m2v_law_shown.specs.Told.{Made, job_in}
use Rattle.m2v_law_shown.proofs.Begins.{GoesOn, Begins, group_begins}
use Rattle.m2v_law_shown.proofs.LawfulStreams.{stream_none}

abbrev jobs_of_all : List Made → List PictureJob
jobs_of_all made = map job_in made

module _ (s : Settings) where
  abbrev made_number : Made → Bool → ℕ → ℕ → ℕ → Numbered
  made_number made first group number frame =
      record { number = number; sequence = own_sequence s; group = group; first_in_group = first; frame = frame; picture = made.1 }

  -- the number of the frame behind a picture
  abbrev frame_behind : Made → ℕ → ℕ
  frame_behind made frame = cond made.1.ends_frame (frame + 1) frame

  frame_is : (made : Made) (frame : ℕ) → IsMade s made → frame_behind made frame ≡ behind frame made.0
  frame_is made frame is = ap (λ b. cond {A = ℕ} b (frame + 1) frame) is.ends_frame

  goes_by : (made : Made) (group number frame : ℕ) (es : Events) (b : Bool) → b ≡ false
      → numbered (Some (own_sequence s)) group false number frame ((headers s made.0 b ++ coded_picture made.1 ∷ []) ++ es)
      ≡ made_number made false group number frame ∷ numbered (Some (own_sequence s)) group false (number + 1) (frame_behind made frame) es
  unfolding numbered
  goes_by made group number frame es true e = absurd cc
  goes_by made group number frame es false e = refl

  begins_by : (made : Made) (q : Option Sequence) (first : Bool) (group number frame : ℕ) (es : Events) (b : Bool) → b ≡ true
      → numbered q group first number frame ((headers s made.0 b ++ coded_picture made.1 ∷ []) ++ es)
      ≡ made_number made true (group + 1) number frame ∷ numbered (Some (own_sequence s)) (group + 1) false (number + 1) (frame_behind made frame) es
  unfolding numbered
  begins_by made q first group number frame es true e = refl
  begins_by made q first group number frame es false e = absurd cc

  -- numbered pictures of jobs, and what is numbered behind them
  record Front (q : Option Sequence) (before : ℕ) (first : Bool) (group number frame : ℕ) (made rest : List Made) (jobs : List PictureJob) : Type 0 where
    pub own : List Numbered
    pub next : ℕ
    pub is : numbered q before first number frame (told_all s (made ++ rest))
        ≡ own ++ numbered (Some (own_sequence s)) group false next (behind_all frame jobs) (told_all s rest)
    pub are : AreOwn s group frame jobs own

  goes : (group number frame : ℕ) (made rest : List Made) → All (IsMade s) made → All GoesOn (jobs_of_all made)
      → Front (Some (own_sequence s)) group false group number frame made rest (jobs_of_all made)
  unfolding AreOwn behind_all
  goes group number frame [] rest is on = record { own = []; next = number; is = refl; are = tt }
  goes group number frame (m ∷ made) rest is on =
      let here = All-head (IsMade s) m made is in
      let this = All-head GoesOn m.0 (jobs_of_all made) on in
      let x = goes group (number + 1) (behind frame m.0) made rest (All-tail (IsMade s) m made is) (All-tail GoesOn m.0 (jobs_of_all made) on) in
      let n = made_number m false group number frame in
      record {
        own = n ∷ x.own;
        next = x.next;
        is = goes_by m group number frame (told_all s (made ++ rest)) (begins_group m.0) this
            ∙ ap (λ k. n ∷ numbered (Some (own_sequence s)) group false (number + 1) k (told_all s (made ++ rest))) (frame_is m frame here)
            ∙ ap (λ xs. n ∷ xs) x.is;
        are = ((record { sequence = refl; first = sym this; picture = here }, (refl, refl)), x.are);
      }

  one_group : (q : Option Sequence) (first : Bool) (group number frame : ℕ) (made rest : List Made) → All (IsMade s) made → Begins (jobs_of_all made)
      → Front q group first (group + 1) number frame made rest (jobs_of_all made)
  unfolding AreOwn behind_all
  one_group q first group number frame [] rest is begins = let e = begins.is in absurd cc
  one_group q first group number frame (m ∷ made) rest is begins =
      let e = begins.is in
      let head : m.0 ≡ begins.first = cc in
      let tail : jobs_of_all made ≡ begins.more = cc in
      let here = All-head (IsMade s) m made is in
      let this : begins_group m.0 ≡ true = ap begins_group head ∙ begins.begins in
      let x = goes (group + 1) (number + 1) (behind frame m.0) made rest (All-tail (IsMade s) m made is) (subst (All GoesOn) (sym tail) begins.others) in
      let n = made_number m true (group + 1) number frame in
      record {
        own = n ∷ x.own;
        next = x.next;
        is = begins_by m q first group number frame (told_all s (made ++ rest)) (begins_group m.0) this
            ∙ ap (λ k. n ∷ numbered (Some (own_sequence s)) (group + 1) false (number + 1) k (told_all s (made ++ rest))) (frame_is m frame here)
            ∙ ap (λ xs. n ∷ xs) x.is;
        are = ((record { sequence = refl; first = sym this; picture = here }, (refl, refl)), x.are);
      }

  -- ---- groups one behind another

  record Split (made : List Made) (jobs later : List PictureJob) : Type 0 where
    pub here : List Made
    pub rest : List Made
    pub is : made ≡ here ++ rest
    pub first : jobs_of_all here ≡ jobs
    pub second : jobs_of_all rest ≡ later

  split_at : (made : List Made) (jobs later : List PictureJob) → jobs_of_all made ≡ jobs ++ later → Split made jobs later
  split_at made [] later e = record { here = []; rest = made; is = refl; first = refl; second = e }
  split_at [] (job ∷ jobs) later e = absurd cc
  split_at (m ∷ made) (job ∷ jobs) later e =
      let head : m.0 ≡ job = cc in
      let tail : jobs_of_all made ≡ jobs ++ later = cc in
      let x = split_at made jobs later tail in
      record {
        here = m ∷ x.here;
        rest = x.rest;
        is = ap (λ xs. m ∷ xs) x.is;
        first = rw (head, x.first) refl;
        second = x.second;
      }

  none_made : (made : List Made) → jobs_of_all made ≡ [] → made ≡ []
  none_made [] e = refl
  none_made (m ∷ made) e = absurd cc

  all_front : (xs ys : List Made) → All (IsMade s) (xs ++ ys) → All (IsMade s) xs
  all_front [] ys all = All-nil (IsMade s)
  all_front (x ∷ xs) ys all = All-cons (IsMade s) x xs (All-head (IsMade s) x (xs ++ ys) all) (all_front xs ys (All-tail (IsMade s) x (xs ++ ys) all))

  all_back : (xs ys : List Made) → All (IsMade s) (xs ++ ys) → All (IsMade s) ys
  all_back [] ys all = all
  all_back (x ∷ xs) ys all = all_back xs ys (All-tail (IsMade s) x (xs ++ ys) all)

  groups_step : {F : Type 0} (g : Group F) (gs : List (Group F)) (made here rest : List Made) (q : Option Sequence) (first : Bool) (group number frame : ℕ)
      → made ≡ here ++ rest → (y : Front q group first (group + 1) number frame here rest g.pictures)
      → AreOwnGroups s (group + 1 + 1) (behind_all frame g.pictures) gs
      (numbered (Some (own_sequence s)) (group + 1) false y.next (behind_all frame g.pictures) (told_all s rest))
      → AreOwnGroups s (group + 1) frame (g ∷ gs) (numbered q group first number frame (told_all s made))
  unfolding AreOwnGroups
  groups_step g gs made here rest q first group number frame split y more = (
    y.own,
    (
      numbered (Some (own_sequence s)) (group + 1) false y.next (behind_all frame g.pictures) (told_all s rest),
      (
        ap (λ xs. numbered q group first number frame (told_all s xs)) split ∙ y.is,
        (y.are, more),
      ),
    ),
  )

  groups_own : {F : Type 0} (gs : List (Group F)) (made : List Made) (q : Option Sequence) (first : Bool) (group number frame : ℕ) → Passes s
      → All (λ (g : Group F). IsGroupOf s g) gs → All (IsMade s) made → jobs_of_all made ≡ jobs_in gs
      → AreOwnGroups s (group + 1) frame gs (numbered q group first number frame (told_all s made))
  unfolding AreOwnGroups numbered
  groups_own [] made q first group number frame passes are is e =
      ap (λ xs. numbered q group first number frame (told_all s xs)) (none_made made e)
  groups_own {F = F} (g ∷ gs) made q first group number frame passes are is e =
      let P = λ (g : Group F). IsGroupOf s g in
      let x = split_at made g.pictures (jobs_in gs) e in
      let all : All (IsMade s) (x.here ++ x.rest) = subst (All (IsMade s)) x.is is in
      let begins : Begins (jobs_of_all x.here) = subst Begins (sym x.first) (group_begins s g passes (All-head P g gs are)) in
      let y = subst (Front q group first (group + 1) number frame x.here x.rest) x.first
      (one_group q first group number frame x.here x.rest (all_front x.here x.rest all) begins) in
      groups_step g gs made x.here x.rest q first group number frame x.is y
      (groups_own gs x.rest (Some (own_sequence s)) false (group + 1) y.next (behind_all frame g.pictures) passes (All-tail P g gs are)
      (all_back x.here x.rest all) x.second)

  -- ---- the sequence headers

  headers_own : (m : Made) (es : Events) (b : Bool) → All (λ (t : Sequence). t ≡ own_sequence s) (sequences_in es)
      → All (λ (t : Sequence). t ≡ own_sequence s) (sequences_in ((headers s m.0 b ++ coded_picture m.1 ∷ []) ++ es))
  headers_own m es true all = All-cons (λ (t : Sequence). t ≡ own_sequence s) (own_sequence s) (sequences_in es) refl all
  headers_own m es false all = all

  sequences_own : (made : List Made) → All (λ (t : Sequence). t ≡ own_sequence s) (sequences_in (told_all s made))
  sequences_own [] = All-nil (λ (t : Sequence). t ≡ own_sequence s)
  sequences_own (m ∷ made) = headers_own m (told_all s made) (begins_group m.0) (sequences_own made)

pub told_none : {F : Type 0} (s : Settings) (gs : List (Group F)) (made : List (PictureJob × Picture)) → Passes s → All (λ (g : Group F). IsGroupOf s g) gs
    → All (IsMade s) made → map (λ (m : PictureJob × Picture). m.0) made ≡ jobs_in gs → breaches false (told_all s made) ≡ []
told_none s gs made passes are is e =
    stream_none s gs (told_all s made) passes are (sequences_own s made) (groups_own s gs made None false 0 0 0 passes are is e)
