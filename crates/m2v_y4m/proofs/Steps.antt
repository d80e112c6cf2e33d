-- What the steps of reading a text do to what comes of it.
use Rattle.std.proofs.Common.{◌≡◌, ◌⊎◌, inl, inr, ℕ, ◌-◌, ◌<◌, ◌≤◌, List, [], ◌∷◌, ◌++◌, length, take, drop, refl, sym, ◌∙◌, ap, arith, Option, Some, None, IfSome, Result, Ok, Err, OnOk, OnErr, IfOk, subst, append_assoc, length-append}
use Rattle.std.specs.Prelude.{option_map}
use Rattle.std.proofs.lemmas.List.{drop-append-le, take-append-le}
use Rattle.m2v_port.specs.Port.{Moves, IsAtEnd}
use Rattle.m2v_y4m.specs.declared.answer.Y4mFault.{Y4mFault}
use Rattle.m2v_y4m.specs.declared.answer.Y4mKind.{Y4mKind}
use Rattle.m2v_y4m.specs.declared.answer.Y4mKind.TheVariants.{Frame}
use Rattle.m2v_y4m.specs.declared.header.Y4mHeader.{Y4mHeader}
use Rattle.m2v_y4m.specs.Texts.{onward}
use Rattle.m2v_y4m.specs.Header.{fault_at, opening}
use Rattle.m2v_y4m.specs.Frames.{Coming, nothing, with_front, frame_line, frames_from, size_of}
use Rattle.m2v_y4m.specs.Sources.{Standing, coming_at, coming, comes_of, left_of, told_left, marked, most_ahead, Took, OpensWith}
use Rattle.m2v_y4m.specs.Reading.{Held, Gave, IsOver, IsBroken, TookLine, BrokeLine}
use Rattle.m2v_y4m.proofs.LineLaws.{Seen, frame_line_seen, opening_seen, opening_seen, take_all, drop_all}
use Rattle.m2v_y4m.proofs.FrameLaws.{from_none, coming_broken, coming_line, coming_unbegun, coming_ended, coming_on, at_edge}

-- what stands of a text that isn't broken
abbrev pub standing : Y4mHeader → ℕ → ℕ → ℕ → List ℕ → Standing
standing header line rest place unread = record { header = header; unread = unread; place = place; rest = rest; line = line; fault = None }

-- the same whatever is told behind
on_each : (f g : List ℕ → Coming) (left : Option (List ℕ)) → ((r : List ℕ) → left ≡ Some r → f r ≡ g r) → option_map f left ≡ option_map g left
on_each f g None same = refl
on_each f g (Some r) same = ap Some (same r refl)

-- bytes that were read are still to come
pub comes_held : (s : Standing) (bytes : List ℕ) (left left_then : Option (List ℕ)) → Moves left bytes left_then
    → comes_of s left ≡ comes_of (record s { unread = s.unread ++ bytes }) left_then
unfolding coming
comes_held s bytes left left_then moves = ap (comes_of s) moves.was ∙ by_case left_then
  where
    by_case : (o : Option (List ℕ)) → comes_of s (option_map (λ rest. bytes ++ rest) o) ≡ comes_of (record s { unread = s.unread ++ bytes }) o
    by_case None = refl
    by_case (Some rest) = ap (λ text. Some (coming (record s { unread = [] }) text)) (sym (append_assoc s.unread bytes rest))

-- the text is seen far enough for a line
seen_in : (u r : List ℕ) (left : Option (List ℕ)) → (length u < 1024 → IsAtEnd left) → left ≡ Some r → Seen u r
seen_in u r left all is = record { is = by_length (grind arith) }
  where
    by_length : (1024 ≤ length u) ⊎ (length u < 1024) → (1024 ≤ length u) ⊎ (r ≡ [])
    by_length (inl long) = inl long
    by_length (inr short) = inr (subst IsAtEnd is (all short))

-- a line
pub comes_line : (header : Y4mHeader) (line place n : ℕ) (u : List ℕ) (left : Option (List ℕ)) → 1 ≤ size_of header → 1 ≤ length u → n ≤ length u
    → frame_line u ≡ Ok n → (length u < 1024 → IsAtEnd left)
    → comes_of (standing header line 0 place u) left ≡ comes_of (standing header place (size_of header) (onward place n) (drop n u)) left
unfolding coming
comes_line header line place n u left big some fits is all = on_each _ _ left (λ r told.
    coming_line (size_of header) line place n (u ++ r) big (omega (arith, length-append u r)) (frame_line_seen u r (seen_in u r left all told) ∙ is)
    ∙ ap (coming_at (size_of header) place (size_of header) (onward place n)) (drop-append-le n u r fits))

-- a line that is broken
pub comes_broken : (header : Y4mHeader) (line place : ℕ) (kind : Y4mKind) (u : List ℕ) (left : Option (List ℕ)) → 1 ≤ length u
    → frame_line u ≡ Err kind → (length u < 1024 → IsAtEnd left)
    → comes_of (standing header line 0 place u) left ≡ comes_of (record (standing header line 0 place u) { fault = Some (fault_at kind place) }) left
unfolding coming
comes_broken header line place kind u left some is all = on_each _ _ left (λ r told.
    coming_broken (size_of header) line place (u ++ r) kind (omega (arith, length-append u r)) (frame_line_seen u r (seen_in u r left all told) ∙ is))

-- the end before a line
pub over_edge : (header : Y4mHeader) (line place : ℕ) (left : Option (List ℕ)) → IsAtEnd left → IsAtEnd (told_left (standing header line 0 place []) left)
unfolding coming coming_at left_of
over_edge header line place None end = tt
over_edge header line place (Some r) end =
    let comes : coming_at (size_of header) line 0 place r ≡ nothing = ap (coming_at (size_of header) line 0 place) end ∙ at_edge (size_of header) line place [] ∙ from_none (size_of header) place in
    ap left_of comes

-- the end inside a frame of which bytes came
pub over_inside : (header : Y4mHeader) (line rest place : ℕ) (left : Option (List ℕ)) → rest < size_of header → IsAtEnd left
    → IsAtEnd (told_left (standing header line rest place []) left)
unfolding coming left_of
over_inside header line rest place None less end = tt
over_inside header line rest place (Some r) less end =
    let comes : coming_at (size_of header) line rest place r ≡ nothing = ap (coming_at (size_of header) line rest place) end ∙ coming_ended (size_of header) line rest place less in
    ap left_of comes

-- the end behind a frame line
pub comes_unbegun : (header : Y4mHeader) (line place : ℕ) (left : Option (List ℕ)) → 1 ≤ size_of header → IsAtEnd left
    → comes_of (standing header line (size_of header) place []) left
    ≡ comes_of (record (standing header line (size_of header) place []) { fault = Some (fault_at Frame line) }) left
unfolding coming
comes_unbegun header line place None big end = refl
comes_unbegun header line place (Some r) big end =
    ap Some (ap (coming_at (size_of header) line (size_of header) place) end ∙ coming_unbegun (size_of header) line place big)

-- bytes of a frame that were read ahead
pub gave_held : (header : Y4mHeader) (line rest place n : ℕ) (u : List ℕ) (left : Option (List ℕ)) → 0 < n → n ≤ rest → rest ≤ size_of header → n ≤ length u
    → Gave (comes_of (standing header line rest place u) left) (take n u) (comes_of (standing header line (rest - n) (onward place n) (drop n u)) left)
unfolding coming
gave_held header line rest place n u left some within most fits = record { was = by_case left }
  where
    by_case : (o : Option (List ℕ)) → comes_of (standing header line rest place u) o
        ≡ option_map (with_front (take n u)) (comes_of (standing header line (rest - n) (onward place n) (drop n u)) o)
    by_case None = refl
    by_case (Some r) = ap Some (coming_on (size_of header) line rest place n (u ++ r) some within most (omega (arith, length-append u r))
        ∙ ap (λ l. with_front l (coming_at (size_of header) line (rest - n) (onward place n) (drop n (u ++ r)))) (take-append-le n u r fits)
        ∙ ap (λ l. with_front (take n u) (coming_at (size_of header) line (rest - n) (onward place n) l)) (drop-append-le n u r fits))

-- nothing was given
pub gave_none : (c : Option Coming) → Gave c [] c
gave_none None = record { was = refl }
gave_none (Some c) = record { was = refl }

-- what is left behind bytes that were given
pub gave_moves : (s t : Standing) (bytes : List ℕ) (left left_then : Option (List ℕ)) → Gave (comes_of s left) bytes (comes_of t left_then)
    → Moves (told_left s left) bytes (told_left t left_then)
unfolding left_of
gave_moves s t bytes left left_then gave = record { was = ap (option_map left_of) gave.was ∙ by_case (comes_of t left_then) }
  where
    by_case : (o : Option Coming) → option_map left_of (option_map (with_front bytes) o) ≡ option_map (λ rest. bytes ++ rest) (option_map left_of o)
    by_case None = refl
    by_case (Some c) = ap Some (append_assoc bytes c.raw (marked c.fault))

pub gave_fault : (old new : Option Coming) (bytes : List ℕ) → Gave old bytes new → option_map (λ c. c.fault) old ≡ option_map (λ c. c.fault) new
gave_fault old new bytes gave = ap (option_map (λ c. c.fault)) gave.was ∙ by_case new
  where
    by_case : (o : Option Coming) → option_map (λ c. c.fault) (option_map (with_front bytes) o) ≡ option_map (λ c. c.fault) o
    by_case None = refl
    by_case (Some c) = refl

-- ---- the same of a state that isn't broken

pub gives_held : (s : Standing) (n : ℕ) (got : List ℕ) (left : Option (List ℕ)) → s.fault ≡ None → 0 < n → n ≤ s.rest → s.rest ≤ size_of s.header → n ≤ length s.unread
    → got ≡ take n s.unread
    → Gave (comes_of s left) got (comes_of (record s { unread = drop n s.unread; rest = s.rest - n; place = onward s.place n }) left)
gives_held s n got left none some within most fits is =
    subst (λ l. Gave (comes_of s left) l (comes_of (record s { unread = drop n s.unread; rest = s.rest - n; place = onward s.place n }) left)) (sym is)
    (subst (λ f. Gave (comes_of (record s { fault = f }) left) (take n s.unread)
    (comes_of (record s { unread = drop n s.unread; rest = s.rest - n; place = onward s.place n; fault = f }) left)) (sym none)
    (gave_held s.header s.line s.rest s.place n s.unread left some within most fits))

-- what was read now
pub moved_on : (s : Standing) (bytes : List ℕ) (left left_then : Option (List ℕ)) → s.unread ≡ [] → Moves left bytes left_then
    → comes_of s left ≡ comes_of (record s { unread = bytes }) left_then
moved_on s bytes left left_then none moves =
    comes_held s bytes left left_then moves ∙ ap (λ u. comes_of (record s { unread = u ++ bytes }) left_then) none

pub gives_read : (s : Standing) (n : ℕ) (bytes : List ℕ) (left left_then : Option (List ℕ)) → s.fault ≡ None → s.unread ≡ [] → 0 < n → n ≤ s.rest
    → s.rest ≤ size_of s.header → length bytes ≡ n → Moves left bytes left_then
    → Gave (comes_of s left) bytes (comes_of (record s { rest = s.rest - n; place = onward s.place n }) left_then)
gives_read s n bytes left left_then none empty some within most count moves =
    let after : Standing = record s { unread = bytes } in
    let all : take n bytes ≡ bytes = take_all n bytes (omega arith) in
    let rest : drop n bytes ≡ s.unread = drop_all n bytes (omega arith) ∙ sym empty in
    let gave = gives_held after n bytes left_then none some within most (omega arith) (sym all) in
    record {
      was = moved_on s bytes left left_then empty moves ∙ gave.was
          ∙ ap (λ u. option_map (with_front bytes) (comes_of (record s { unread = u; rest = s.rest - n; place = onward s.place n }) left_then)) rest;
    }

pub ends_unbegun : (s : Standing) (left left_then : Option (List ℕ)) → s.fault ≡ None → s.unread ≡ [] → s.rest ≡ size_of s.header → 1 ≤ size_of s.header
    → Moves left [] left_then → IsAtEnd left_then
    → comes_of (record s { fault = Some (fault_at Frame s.line) }) left_then ≡ comes_of s left
ends_unbegun s left left_then none empty whole big moves end =
    sym (moved_on s [] left left_then empty moves
    ∙ subst (λ f. comes_of (record s { unread = []; fault = f }) left_then ≡ comes_of (record s { unread = []; fault = Some (fault_at Frame s.line) }) left_then) (sym none)
    (subst (λ r. comes_of (record s { unread = []; rest = r; fault = None }) left_then ≡ comes_of (record s { unread = []; rest = r; fault = Some (fault_at Frame s.line) }) left_then) (sym whole)
    (comes_unbegun s.header s.line s.place left_then big end))
    ∙ ap (λ u. comes_of (record s { unread = u; fault = Some (fault_at Frame s.line) }) left_then) (sym empty))

pub ends_inside : (s : Standing) (left : Option (List ℕ)) → s.fault ≡ None → s.unread ≡ [] → s.rest < size_of s.header → IsAtEnd left → IsAtEnd (told_left s left)
ends_inside s left none empty less end =
    subst (λ u. IsAtEnd (told_left (record s { unread = u }) left)) (sym empty)
    (subst (λ f. IsAtEnd (told_left (record s { unread = []; fault = f }) left)) (sym none) (over_inside s.header s.line s.rest s.place left less end))

pub gives_none : (s : Standing) (left left_then : Option (List ℕ)) → s.unread ≡ [] → Moves left [] left_then → Gave (comes_of s left) [] (comes_of s left_then)
gives_none s left left_then empty moves =
    record { was = moved_on s [] left left_then empty moves ∙ ap (λ u. comes_of (record s { unread = u }) left_then) (sym empty) ∙ (gave_none (comes_of s left_then)).was }

pub ended_same : {T E : Type 0} (r : Result T E) (s t : Standing) (left left_then : Option (List ℕ)) → s.fault ≡ None → s.unread ≡ [] → 1 ≤ size_of s.header
    → Moves left [] left_then → IsAtEnd left_then
    → OnErr r ((t ≡ record s { fault = Some (fault_at Frame s.line) }) × (s.rest ≡ size_of s.header)) → OnErr r (comes_of t left_then ≡ comes_of s left)
ended_same (Ok v) s t left left_then none empty big moves end is = tt
ended_same (Err e) s t left left_then none empty big moves end is =
    ap (λ x. comes_of x left_then) is.0 ∙ ends_unbegun s left left_then none empty is.1 big moves end

pub ended_over : {T E : Type 0} (r : Result T E) (s t : Standing) (left : Option (List ℕ)) (v : T) → s.fault ≡ None → s.unread ≡ [] → IsAtEnd left
    → OnOk r ((t ≡ s) × (s.rest < size_of s.header)) → r ≡ Ok v → IsAtEnd (told_left t left)
ended_over r s t left v none empty end is same = of_ok (subst (λ x. OnOk x ((t ≡ s) × (s.rest < size_of s.header))) same is)
  where
    of_ok : ((t ≡ s) × (s.rest < size_of s.header)) → IsAtEnd (told_left t left)
    of_ok p = subst (λ x. IsAtEnd (told_left x left)) (sym p.0) (ends_inside s left none empty p.1 end)

-- a line that was read ahead
pub took_line : (s t : Standing) (left : Option (List ℕ)) → s.rest ≡ 0 → s.fault ≡ None → 1 ≤ size_of s.header → 1 ≤ length s.unread
    → (length s.unread < 1024 → IsAtEnd left) → TookLine s t → comes_of t left ≡ comes_of s left
took_line s t left edge none big some all took =
    ap (λ x. comes_of x left) took.after
    ∙ sym (subst (λ f. comes_of (record s { fault = f }) left ≡ comes_of (record s { unread = drop took.n s.unread; line = s.place; place = onward s.place took.n; rest = size_of s.header; fault = f }) left) (sym none)
    (subst (λ r. comes_of (record s { rest = r; fault = None }) left ≡ comes_of (standing s.header s.place (size_of s.header) (onward s.place took.n) (drop took.n s.unread)) left) (sym edge)
    (comes_line s.header s.line s.place took.n s.unread left big some took.fits took.is all)))

pub broke_line : (s t : Standing) (left : Option (List ℕ)) → s.rest ≡ 0 → s.fault ≡ None → 1 ≤ length s.unread
    → (length s.unread < 1024 → IsAtEnd left) → BrokeLine s t → comes_of t left ≡ comes_of s left
broke_line s t left edge none some all broke =
    ap (λ x. comes_of x left) broke.after
    ∙ sym (subst (λ f. comes_of (record s { fault = f }) left ≡ comes_of (record s { fault = Some (fault_at broke.kind s.place) }) left) (sym none)
    (subst (λ r. comes_of (record s { rest = r; fault = None }) left ≡ comes_of (record s { rest = r; fault = Some (fault_at broke.kind s.place) }) left) (sym edge)
    (comes_broken s.header s.line s.place broke.kind s.unread left some broke.is all)))

pub edge_over : (s : Standing) (left : Option (List ℕ)) → s.rest ≡ 0 → s.fault ≡ None → s.unread ≡ [] → IsAtEnd left → IsAtEnd (told_left s left)
edge_over s left edge none empty end =
    subst (λ u. IsAtEnd (told_left (record s { unread = u }) left)) (sym empty)
    (subst (λ f. IsAtEnd (told_left (record s { unread = []; fault = f }) left)) (sym none)
    (subst (λ r. IsAtEnd (told_left (record s { unread = []; rest = r; fault = None }) left)) (sym edge) (over_edge s.header s.line s.place left end)))

-- what was read ahead
pub looked : (s was : Standing) (u : List ℕ) (left left_then : Option (List ℕ)) → s ≡ was → Held s.unread left u left_then
    → comes_of (record s { unread = u }) left_then ≡ comes_of was left
looked s was u left left_then is held =
    sym (ap (λ x. comes_of x left) (sym is) ∙ comes_held s held.bytes left left_then held.moved ∙ ap (λ l. comes_of (record s { unread = l }) left_then) (sym held.grown))

-- ---- opening

pub took_held : (left left_then : Option (List ℕ)) (u : List ℕ) → length u ≤ most_ahead → Held [] left u left_then → Took left left_then
took_held left left_then u few held = record { bytes = held.bytes; few = omega (arith, few, ap length held.grown); moved = held.moved }

-- what the text is, where it is told
told_text : (left left_then : Option (List ℕ)) (u : List ℕ) (Holds : List ℕ → Type 0) → Held [] left u left_then
    → ((r : List ℕ) → left_then ≡ Some r → Holds (u ++ r)) → IfSome left Holds
told_text left left_then u Holds held each = subst (λ o. IfSome o Holds) (sym was) (by_case left_then refl)
  where
    was : left ≡ option_map (λ rest. u ++ rest) left_then
    was = held.moved.was ∙ ap (λ l. option_map (λ rest. l ++ rest) left_then) (sym held.grown)

    by_case : (o : Option (List ℕ)) → left_then ≡ o → IfSome (option_map (λ rest. u ++ rest) o) Holds
    by_case None is = tt
    by_case (Some r) is = each r is

pub comes_behind : (s : Standing) (u r : List ℕ) → s.unread ≡ drop s.place u → s.place ≤ length u → s.rest ≡ 0 → s.fault ≡ None
    → coming s r ≡ frames_from (size_of s.header) s.place (drop s.place (u ++ r))
unfolding coming coming_at
comes_behind s u r unread within edge none = rw (none, edge) (ap (frames_from (size_of s.header) s.place) (ap (λ l. l ++ r) unread ∙ sym (drop-append-le s.place u r within)))

pub opened_text : (s : Standing) (u : List ℕ) (left left_then : Option (List ℕ)) → Held [] left u left_then → (length u < 1024 → IsAtEnd left_then)
    → opening u ≡ Ok (record { header = s.header; length = s.place }) → s.unread ≡ drop s.place u → s.place ≤ length u → s.rest ≡ 0 → s.fault ≡ None
    → IfSome left (OpensWith s left_then)
opened_text s u left left_then held all opens unread within edge none = told_text left left_then u (OpensWith s left_then) held (λ r told. record {
  coming = coming s r;
  begins = record {
    length = s.place;
    opens = opening_seen u r (seen_in u r left_then all told) ∙ opens;
    comes = comes_behind s u r unread within edge none;
  };
  comes = ap (comes_of s) told;
})

pub not_opened : (fault : Y4mFault) (u : List ℕ) (left left_then : Option (List ℕ)) → Held [] left u left_then → (length u < 1024 → IsAtEnd left_then)
    → opening u ≡ Err fault → IfSome left (λ text. opening text ≡ Err fault)
not_opened fault u left left_then held all bad =
    told_text left left_then u (λ text. opening text ≡ Err fault) held (λ r told. opening_seen u r (seen_in u r left_then all told) ∙ bad)

-- ---- reading

pub read_gave : {E : Type 0} (r : Result ℕ E) (before after : Option Coming) (buf : List ℕ) (new : Option Coming) → after ≡ before
    → IfOk r (λ n. Gave after (take n buf) new) → IfOk r (λ n. Gave before (take n buf) new)
read_gave (Ok n) before after buf new same gave = subst (λ o. Gave o (take n buf) new) same gave
read_gave (Err e) before after buf new same gave = tt

pub read_moved : {E : Type 0} (r : Result ℕ E) (s t : Standing) (left left_then : Option (List ℕ)) (buf : List ℕ)
    → IfOk r (λ n. Gave (comes_of s left) (take n buf) (comes_of t left_then)) → IfOk r (λ n. Moves (told_left s left) (take n buf) (told_left t left_then))
read_moved (Ok n) s t left left_then buf gave = gave_moves s t (take n buf) left left_then gave
read_moved (Err e) s t left left_then buf gave = tt

-- ---- all that comes

nothing_left : (raw : List ℕ) (fault : Option Y4mFault) → raw ++ marked fault ≡ [] → ◌≡◌ {A = Coming} (record { raw = raw; fault = fault }) nothing
nothing_left [] None e = refl
nothing_left [] (Some f) e = absurd (cc)
nothing_left (b ∷ raw) fault e = absurd (cc)

pub is_over : (s : Standing) (left : Option (List ℕ)) → IsAtEnd (told_left s left) → IsOver (comes_of s left)
unfolding left_of
is_over s left end = by_case (comes_of s left) end
  where
    by_case : (o : Option Coming) → IsAtEnd (option_map left_of o) → IsOver o
    by_case None e = tt
    by_case (Some c) e = nothing_left c.raw c.fault e

pub is_broken : (s : Standing) (f : Y4mFault) (left : Option (List ℕ)) → s.fault ≡ Some f → IsBroken f (comes_of s left)
unfolding coming
is_broken s f None is = tt
is_broken s f (Some r) is = rw is refl

pub gave_on : (old between new : Option Coming) (xs ys : List ℕ) → Gave old xs between → Gave between ys new → Gave old (xs ++ ys) new
gave_on old between new xs ys first second = record { was = first.was ∙ ap (option_map (with_front xs)) second.was ∙ joined new }
  where
    joined : (o : Option Coming) → option_map (with_front xs) (option_map (with_front ys) o) ≡ option_map (with_front (xs ++ ys)) o
    joined None = refl
    joined (Some c) = ap (λ l. Some (record { raw = l; fault = c.fault })) (sym (append_assoc xs ys c.raw))
