-- What each step of the board is to the core that the board shows.
use Rattle.std.proofs.Common.{◌≡◌, ◌≢◌, ℕ, zero, suc, ◌+◌, ◌<◌, ◌≤◌, min, Bool, true, false, not, cond, ◌&&◌, ◌||◌, List, [], ◌∷◌, ◌++◌, length, map, replicate, set, get_or, refl, sym, ap, ◌∙◌, subst, arith, eqb, ltb, get_or-set_other, get_or-set_same}
use Rattle.std.specs.Prelude.{filter, find, Option, Some, None, is_some, All, Contains, Ok, Err}
use Rattle.std.specs.List.{range_with_len, list_any}
use Rattle.std.proofs.lemmas.Bool.Decides.{nat_tests}
use Rattle.std.proofs.lemmas.Bool.{cases_lt, eq-eqb, ne_eqb, lt-ltb}
use Rattle.std.proofs.lemmas.List.FromFn.{get_or-map-range_with_len}
use Rattle.std.proofs.lemmas.List.{get_or-map, length-map}
use Rattle.std.proofs.lemmas.List.Elements.{All-contains}
use lib.Seq.{map-set, map-set_same}
use lib.ListN.{get_elem?}
use mathlib.Core.Option.{some, some-injective, some-ne-none}
use mathlib.Core.Bool.{true≢false}
use mathlib.Core.Logic.{⊎_elim, dite}
use native.Mathlib.Decide.{ℕ_discrete}
use Rattle.atomic_table.specs.Table as table
use Rattle.m2v_core.specs.declared.event.Event.TheVariants.{Claim, Publish, Fetch}
use Rattle.m2v_core.specs.declared.event.Answer.TheVariants.{Drawn, End, Done}
use Rattle.m2v_core.specs.declared.event.StepFault.TheVariants.{NotLawful}
use Rattle.m2v_core.specs.Core.{State, published_count, workers, of_worker, is_published, is_open, missing, opening, answer, after}
use Rattle.m2v_core.proofs.Answers.{claim_drawn, claim_at_end, publish_done}
use Rattle.m2v_board.specs.declared.view.View.{View}
use Rattle.m2v_board.specs.Rule.{About, Ruled, times, one_if, word, draws, first_view}
use Rattle.m2v_board.specs.Steps.{draw, publish, fewer, one_pass, both}
use Rattle.m2v_board.specs.Shows.{shown}
use Rattle.m2v_board.proofs.Raises.{word_of_job}
use Rattle.m2v_board.proofs.Opening.{zero_at}
use Rattle.m2v_board.proofs.Slots.{times_cons}

elem_lt : {A : Type 0} (l : List A) (i : ℕ) (a : A) → get_elem? l i ≡ some a → i < length l
elem_lt [] i a e = absurd (some-ne-none a (sym e))
elem_lt (x ∷ l) zero a e = omega arith
elem_lt (x ∷ l) (suc i) a e = let r = elem_lt l i a e in omega arith

elem_at : {A : Type 0} (l : List A) (i : ℕ) (a d : A) → get_elem? l i ≡ some a → get_or l i d ≡ a
elem_at [] i a d e = absurd (some-ne-none a (sym e))
elem_at (x ∷ l) zero a d e = some-injective x a e
elem_at (x ∷ l) (suc i) a d e = elem_at l i a d e

map_append : {X Y : Type 0} (f : X → Y) (xs ys : List X) → map f (xs ++ ys) ≡ map f xs ++ map f ys
map_append f [] ys = refl
map_append f (x ∷ xs) ys = ap (λ l. f x ∷ l) (map_append f xs ys)

filter_append : (p : ℕ → Bool) (xs ys : List ℕ) → filter p (xs ++ ys) ≡ filter p xs ++ filter p ys
filter_append p [] ys = refl
filter_append p (x ∷ xs) ys = by (p x) (filter_append p xs ys)
  where
    by : (b : Bool) → filter p (xs ++ ys) ≡ filter p xs ++ filter p ys → cond b (x ∷ filter p (xs ++ ys)) (filter p (xs ++ ys)) ≡ cond b (x ∷ filter p xs) (filter p xs) ++ filter p ys
    by true e = ap (λ l. x ∷ l) e
    by false e = e

map_same : {Y : Type 0} (f g : ℕ → Y) → ((i : ℕ) → f i ≡ g i) → (xs : List ℕ) → map f xs ≡ map g xs
map_same f g h [] = refl
map_same f g h (x ∷ xs) = λ i. h x i ∷ map_same f g h xs i

-- one place of a list that a function makes
map_one : {Y : Type 0} (f g : ℕ → Y) (a n k : ℕ) (y : Y) → k < n → g (a + k) ≡ y → ((i : ℕ) → i ≢ a + k → g i ≡ f i) → map g (range_with_len a n) ≡ set (map f (range_with_len a n)) k y
map_one f g a zero k y lt here else_ = absurd (omega arith)
map_one f g a (suc n) zero y lt here else_ =
    let e : a + 0 ≡ a = omega arith in
    (λ i. (ap g (sym e) ∙ here) i ∷ rest_same f g (a + 1) n (λ m le. else_ m (λ h. omega arith)) i)
  where
    rest_same : {Y : Type 0} (f g : ℕ → Y) (a n : ℕ) → ((i : ℕ) → a ≤ i → g i ≡ f i) → map g (range_with_len a n) ≡ map f (range_with_len a n)
    rest_same f g a zero h = refl
    rest_same f g a (suc n) h = λ i. h a (≤_refl a) i ∷ rest_same f g (a + 1) n (λ m le. h m (omega arith)) i
      where
        ≤_refl : (m : ℕ) → m ≤ m
        ≤_refl m = omega arith
map_one f g a (suc n) (suc k) y lt here else_ =
    let e : a + suc k ≡ a + 1 + k = omega arith in
    (λ i. else_ a (λ h. omega arith) i ∷ map_one f g (a + 1) n k y (omega arith) (ap g (sym e) ∙ here) (λ m ne. else_ m (λ h. ne (h ∙ e))) i)

any_of : (j : ℕ) (xs : List ℕ) → 0 < times j xs → list_any (λ i. eqb i j) xs ≡ true
any_of j [] h = absurd (omega arith)
any_of j (x ∷ xs) h = by (eqb x j) refl (any_of j xs)
  where
    c : times j (x ∷ xs) ≡ one_if (eqb x j) + times j xs
    c = times_cons j x xs

    by : (b : Bool) → eqb x j ≡ b → (0 < times j xs → list_any (λ i. eqb i j) xs ≡ true) → (b || list_any (λ i. eqb i j) xs) ≡ true
    by true e rec = refl
    by false e rec = let z = ap one_if e in rec (omega (arith, c, h))

times_kept : (n j : ℕ) (xs : List ℕ) → j < n → 0 < times j xs → 0 < times j (filter (λ y. ltb y n) xs)
times_kept n j [] lt h = absurd (omega arith)
times_kept n j (x ∷ xs) lt h = by (ltb x n) refl (times_kept n j xs lt)
  where
    c : times j (x ∷ xs) ≡ one_if (eqb x j) + times j xs
    c = times_cons j x xs

    gone : ltb x n ≡ false → one_if (eqb x j) ≡ 0
    gone e = grind (arith, nat_tests)

    by : (b : Bool) → ltb x n ≡ b → (0 < times j xs → 0 < times j (filter (λ y. ltb y n) xs)) → 0 < times j (cond b (x ∷ filter (λ y. ltb y n) xs) (filter (λ y. ltb y n) xs))
    by true e rec = let d = times_cons j x (filter (λ y. ltb y n) xs) in dite (ℕ_discrete (times j xs) 0) (λ z. omega (arith, c, h, d)) (λ nz. let r = rec (omega arith) in omega (arith, d))
    by false e rec = let z = gone e in rec (omega (arith, c, h))

find_none : (p : ℕ → Bool) (xs : List ℕ) → All (λ i. p i ≡ false) xs → find p xs ≡ None
find_none p [] h = refl
find_none p (x ∷ xs) h = by (p x) (h 0 0 (first (length xs))) (find_none p xs (λ i d lt. h (suc i) d (more i (length xs) lt)))
  where
    first : (n : ℕ) → 0 < suc n
    first n = omega arith

    more : (i n : ℕ) → i < n → suc i < suc n
    more i n lt = omega arith

    by : (b : Bool) → b ≡ false → find p xs ≡ None → cond b (Some x) (find p xs) ≡ None
    by true e rec = absurd (true≢false e)
    by false e rec = rec

append_none : (xs : List ℕ) → xs ++ [] ≡ xs
append_none [] = refl
append_none (x ∷ xs) = ap (λ l. x ∷ l) (append_none xs)

module _ {S P : Type 0} (k : About S) (value : ℕ → P) (s : table.State S View) (h : Ruled k s) where
  abbrev pub now : State P
  now = shown k.jobs value s.words s.views

  abbrev pub claims : View → List ℕ
  claims v = filter (λ y. ltb y k.jobs) v.drawn

  -- the claimed lists as they were, where one view is another with the same draws
  claimed_same : (w : ℕ) (v u : View) → get_elem? s.views w ≡ some v → u.drawn ≡ v.drawn → map claims (set s.views w u) ≡ map claims s.views
  claimed_same w v u at e = map-set_same claims s.views w u v (ap (filter (λ y. ltb y k.jobs)) (e ∙ ap (λ (x : View). x.drawn) (sym (elem_at s.views w v v at))))

  is_worker : (w : ℕ) (v : View) → get_elem? s.views w ≡ some v → w < workers now
  is_worker w v at = subst (λ n. w < n) (sym (length-map s.views claims)) (elem_lt s.views w v at)

  its_claims : (w : ℕ) (v : View) → get_elem? s.views w ≡ some v → of_worker now w ≡ claims v
  its_claims w v at = get_or-map claims s.views w v [] (elem_lt s.views w v at) ∙ ap claims (elem_at s.views w v v at)

  abbrev pub shows : List ℕ → ℕ → Option P
  shows ws j = cond (eqb (word ws j) 0) None (Some (value j))

  is_shown : (j : ℕ) → j < k.jobs → is_published now j ≡ is_some (shows s.words j)
  is_shown j lt = ap is_some (get_or-map-range_with_len (shows s.words) 0 k.jobs j j None lt (omega arith))

  shown_there : (j : ℕ) → word s.words j ≢ 0 → is_published now j ≡ true
  shown_there j nz = is_shown j (word_of_job k s h j nz) ∙ ap (λ b. is_some (cond b None (Some (value j)))) (ne_eqb (word s.words j) 0 nz)

  -- words and views that show the same state
  pub shown_same : (ws : List ℕ) (vs : List View) → draws ws ≡ draws s.words → map claims vs ≡ map claims s.views → ((j : ℕ) → eqb (word ws j) 0 ≡ eqb (word s.words j) 0) → shown k.jobs value ws vs ≡ shown k.jobs value s.words s.views
  shown_same ws vs first views same =
      let made = map_same (shows ws) (shows s.words) (λ j. ap (λ b. cond b None (Some (value j))) (same j)) (range_with_len 0 k.jobs) in
      λ i. record { jobs = k.jobs; next = min (first i) k.jobs; claimed = views i; published = made i }

  -- a claim is the event Claim
  pub claim_shown : (w : ℕ) (v : View) → get_elem? s.views w ≡ some v
      → shown k.jobs value (set s.words 0 (draws s.words + 1)) (set s.views w (draw v (draws s.words))) ≡ after value k.needs (shown k.jobs value s.words s.views) (Claim w)
  claim_shown w v at = ⊎_elim below past (cases_lt (draws s.words) k.jobs)
    where
      first : draws (set s.words 0 (draws s.words + 1)) ≡ draws s.words + 1
      first = get_or-set_same s.words 0 (draws s.words + 1) 0 (omega (arith, h.words))

      same : (j : ℕ) → word (set s.words 0 (draws s.words + 1)) j ≡ word s.words j
      same j = get_or-set_other s.words 0 (j + 1) (draws s.words + 1) 0 (λ e. omega arith)

      made : map (shows (set s.words 0 (draws s.words + 1))) (range_with_len 0 k.jobs) ≡ map (shows s.words) (range_with_len 0 k.jobs)
      made = map_same (shows (set s.words 0 (draws s.words + 1))) (shows s.words) (λ j. ap (λ m. cond (eqb m 0) None (Some (value j))) (same j)) (range_with_len 0 k.jobs)

      below : draws s.words < k.jobs → shown k.jobs value (set s.words 0 (draws s.words + 1)) (set s.views w (draw v (draws s.words))) ≡ after value k.needs (shown k.jobs value s.words s.views) (Claim w)
      below lt =
          let next : min (draws (set s.words 0 (draws s.words + 1))) k.jobs ≡ min (draws s.words) k.jobs + 1 = (let f = first in omega arith) in
          let low : min (draws s.words) k.jobs ≡ draws s.words = omega arith in
          let one : filter (λ y. ltb y k.jobs) (draws s.words ∷ []) ≡ min (draws s.words) k.jobs ∷ [] = ap (λ b. cond b (draws s.words ∷ []) []) (lt-ltb (draws s.words) k.jobs lt) ∙ ap (λ m. m ∷ []) (sym low) in
          let list : claims (draw v (draws s.words)) ≡ of_worker now w ++ min (draws s.words) k.jobs ∷ [] = filter_append (λ y. ltb y k.jobs) v.drawn (draws s.words ∷ []) ∙ (λ i. sym (its_claims w v at) i ++ one i) in
          let lists = map-set claims s.views w (draw v (draws s.words)) ∙ ap (set (map claims s.views) w) list in
          (λ i. record { jobs = k.jobs; next = next i; claimed = lists i; published = made i }) ∙ (claim_drawn value k.needs now w (is_worker w v at) (omega arith)).1

      past : k.jobs ≤ draws s.words → shown k.jobs value (set s.words 0 (draws s.words + 1)) (set s.views w (draw v (draws s.words))) ≡ after value k.needs (shown k.jobs value s.words s.views) (Claim w)
      past ge =
          let next : min (draws (set s.words 0 (draws s.words + 1))) k.jobs ≡ min (draws s.words) k.jobs = (let f = first in omega arith) in
          let none : filter (λ y. ltb y k.jobs) (draws s.words ∷ []) ≡ [] = ap (λ b. cond b (draws s.words ∷ []) []) (not_below (draws s.words) k.jobs ge) in
          let list : claims (draw v (draws s.words)) ≡ claims (get_or s.views w v) = filter_append (λ y. ltb y k.jobs) v.drawn (draws s.words ∷ []) ∙ ap (λ l. claims v ++ l) none ∙ append_none (claims v) ∙ ap claims (sym (elem_at s.views w v v at)) in
          let lists = map-set_same claims s.views w (draw v (draws s.words)) v list in
          (λ i. record { jobs = k.jobs; next = next i; claimed = lists i; published = made i }) ∙ (claim_at_end value k.needs now w (is_worker w v at) (omega arith)).1
        where
          not_below : (a b : ℕ) → b ≤ a → ltb a b ≡ false
          not_below a b le = grind (arith, nat_tests)

  -- what is answered to it: the number that was drawn, where that is a job
  pub claim_answered : (w : ℕ) (v : View) → get_elem? s.views w ≡ some v
      → answer k.needs (shown k.jobs value s.words s.views) (Claim w) ≡ cond (ltb (draws s.words) k.jobs) (Ok (Drawn (draws s.words))) (Ok End)
  claim_answered w v at = ⊎_elim below past (cases_lt (draws s.words) k.jobs)
    where
      not_below : (a b : ℕ) → b ≤ a → ltb a b ≡ false
      not_below a b le = grind (arith, nat_tests)

      below : draws s.words < k.jobs → answer k.needs (shown k.jobs value s.words s.views) (Claim w) ≡ cond (ltb (draws s.words) k.jobs) (Ok (Drawn (draws s.words))) (Ok End)
      below lt =
          let low : min (draws s.words) k.jobs ≡ draws s.words = omega arith in
          sym (claim_drawn value k.needs now w (is_worker w v at) (omega arith)).0
          ∙ ap (λ (m : ℕ). Ok (Drawn m)) low
          ∙ ap (λ b. cond b (Ok (Drawn (draws s.words))) (Ok End)) (sym (lt-ltb (draws s.words) k.jobs lt))

      past : k.jobs ≤ draws s.words → answer k.needs (shown k.jobs value s.words s.views) (Claim w) ≡ cond (ltb (draws s.words) k.jobs) (Ok (Drawn (draws s.words))) (Ok End)
      past ge =
          sym (claim_at_end value k.needs now w (is_worker w v at) (omega arith)).0
          ∙ ap (λ b. cond b (Ok (Drawn (draws s.words))) (Ok End)) (sym (not_below (draws s.words) k.jobs ge))

  -- the word of one job changes, and not to 0
  module _ (j b : ℕ) (lt : j < k.jobs) (nz : b ≢ 0) where
    first_same : draws (set s.words (j + 1) b) ≡ draws s.words
    first_same = get_or-set_other s.words (j + 1) 0 b 0 (λ e. omega arith)

    word_here : word (set s.words (j + 1) b) j ≡ b
    word_here = get_or-set_same s.words (j + 1) b 0 (omega (arith, h.words))

    word_else : (i : ℕ) → i ≢ j → word (set s.words (j + 1) b) i ≡ word s.words i
    word_else i ne = get_or-set_other s.words (j + 1) (i + 1) b 0 (λ e. ne (omega arith))

    -- a borrow is the event Fetch, and a return is none: what is shown stays
    pub lent_shown : (w : ℕ) (v u : View) → get_elem? s.views w ≡ some v → u.drawn ≡ v.drawn → word s.words j ≢ 0
        → (answer k.needs (shown k.jobs value s.words s.views) (Fetch w j) ≡ Ok Done) × (shown k.jobs value (set s.words (j + 1) b) (set s.views w u) ≡ shown k.jobs value s.words s.views)
    unfolding answer
    lent_shown w v u at e was = (
      (λ i. cond (lt-ltb w (workers now) (is_worker w v at) i) (cond (shown_there j was i) (Ok Done) (Err (NotLawful j (published_count now)))) (Err (NotLawful w (workers now)))),
      shown_same (set s.words (j + 1) b) (set s.views w u) first_same (claimed_same w v u at e) (λ i. dite (ℕ_discrete i j)
          (λ same. subst (λ (m : ℕ). eqb (word (set s.words (j + 1) b) m) 0 ≡ eqb (word s.words m) 0) (sym same) (ap (λ m. eqb m 0) word_here ∙ ne_eqb b 0 nz ∙ sym (ne_eqb (word s.words j) 0 was)))
          (λ ne. ap (λ m. eqb m 0) (word_else i ne))),
    )

    -- a raise is a possible Publish
    pub raise_shown : (w : ℕ) (v : View) → get_elem? s.views w ≡ some v → times j v.published < times j v.drawn → All (λ i. Contains v.borrowed i) (k.needs j)
        → (answer k.needs (shown k.jobs value s.words s.views) (Publish w j) ≡ Ok Done)
        × (shown k.jobs value (set s.words (j + 1) b) (set s.views w (publish v j)) ≡ after value k.needs (shown k.jobs value s.words s.views) (Publish w j))
    raise_shown w v at more learned =
        let q = h.each_view w v at in
        let zero_word : word s.words j ≡ 0 = dite (ℕ_discrete (word s.words j) 0) (λ z. z)
        (λ was. let p = q.published j ∙ ap (λ (t : Bool). cond t 0 (times j v.drawn)) (ne_eqb (word s.words j) 0 was) in absurd (omega arith)) in
        let drew : 0 < times j v.drawn = (let a : times j v.published < times j v.drawn = more in omega arith) in
        let claimed : list_any (λ i. eqb i j) (of_worker now w) ≡ true = any_of j (of_worker now w) (subst (λ (l : List ℕ). 0 < times j l) (sym (its_claims w v at)) (times_kept k.jobs j v.drawn lt drew)) in
        let not_yet : is_published now j ≡ false = is_shown j lt ∙ ap (λ t. is_some (cond t None (Some (value j)))) (eq-eqb (word s.words j) 0 zero_word) in
        let is : is_open now w j ≡ true = λ i. claimed i && not (not_yet i) in
        let none : missing now (k.needs j) ≡ None = find_none (λ i. not (is_published now i)) (k.needs j)
        (λ m d ml. ap not (shown_there (get_or (k.needs j) m d) (All-contains (λ i. word s.words i ≢ 0) v.borrowed (get_or (k.needs j) m d) q.borrowed (learned m d ml)))) in
        let t = publish_done value k.needs now w j (is_worker w v at) is none in
        let made = map_one (shows s.words) (shows (set s.words (j + 1) b)) 0 k.jobs j (Some (value j)) lt
        (let e : 0 + j ≡ j = omega arith in ap (shows (set s.words (j + 1) b)) e ∙ ap (λ m. cond (eqb m 0) None (Some (value j))) word_here ∙ ap (λ t. cond t None (Some (value j))) (ne_eqb b 0 nz))
        (λ i ne. ap (λ m. cond (eqb m 0) None (Some (value i))) (word_else i (λ e. ne (omega arith)))) in
        let lists = claimed_same w v (publish v j) at refl in
        (sym t.0, (λ i. record { jobs = k.jobs; next = min (first_same i) k.jobs; claimed = lists i; published = made i }) ∙ t.1)

  -- a split adds an empty claimed list
  pub split_shown : (w : ℕ) (v : View) → get_elem? s.views w ≡ some v
      → shown k.jobs value s.words (set s.views w (fewer v) ++ one_pass v ∷ []) ≡ record (shown k.jobs value s.words s.views) { claimed = (shown k.jobs value s.words s.views).claimed ++ [] ∷ [] }
  split_shown w v at =
      let lists = map_append claims (set s.views w (fewer v)) (one_pass v ∷ []) ∙ ap (λ l. l ++ [] ∷ []) (claimed_same w v (fewer v) at refl) in
      λ i. record { jobs = k.jobs; next = min (draws s.words) k.jobs; claimed = lists i; published = map (λ j. cond (eqb (word s.words j) 0) None (Some (value j))) (range_with_len 0 k.jobs) }

  -- a join moves a claimed list
  pub join_shown : (w i : ℕ) (v u : View) → get_elem? s.views w ≡ some v → get_elem? s.views i ≡ some u
      → shown k.jobs value s.words (set (set s.views w (both v u)) i (first_view 0 0))
      ≡ record (shown k.jobs value s.words s.views) { claimed = set (set (shown k.jobs value s.words s.views).claimed w (of_worker (shown k.jobs value s.words s.views) w ++ of_worker (shown k.jobs value s.words s.views) i)) i [] }
  join_shown w i v u at there =
      let list : claims (both v u) ≡ of_worker now w ++ of_worker now i = filter_append (λ y. ltb y k.jobs) v.drawn u.drawn ∙ (λ x. sym (its_claims w v at) x ++ sym (its_claims i u there) x) in
      let lists = map-set claims (set s.views w (both v u)) i (first_view 0 0) ∙ ap (λ l. set l i []) (map-set claims s.views w (both v u) ∙ ap (set (map claims s.views) w) list) in
      λ x. record { jobs = k.jobs; next = min (draws s.words) k.jobs; claimed = lists x; published = map (λ j. cond (eqb (word s.words j) 0) None (Some (value j))) (range_with_len 0 k.jobs) }

-- a new board shows the opening state, of one worker
pub opening_shown : {P : Type 0} (n : ℕ) (workers_ : ℕ) (value : ℕ → P) → shown n value (replicate (n + 1) 0) (first_view n workers_ ∷ []) ≡ opening n 1
opening_shown n workers_ value = λ i. record { jobs = n; next = next i; claimed = [] ∷ []; published = none 0 n i }
  where
    next : min (draws (replicate (n + 1) 0)) n ≡ 0
    next = let z = zero_at (n + 1) 0 in omega arith

    none : (a m : ℕ) → map (λ j. cond (eqb (word (replicate (n + 1) 0) j) 0) None (Some (value j))) (range_with_len a m) ≡ replicate m None
    none a zero = refl
    none a (suc m) = λ i. cond (eq-eqb (word (replicate (n + 1) 0) a) 0 (zero_at (n + 1) (a + 1)) i) None (Some (value a)) ∷ none (a + 1) m i
