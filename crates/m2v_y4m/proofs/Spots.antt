-- Reading on from spot to spot, whatever text follows: what each step of a reader does, and what was taken of the text then.
use Rattle.std.proofs.Common.{◌≡◌, ℕ, ◌+◌, ◌-◌, ◌<◌, ◌≤◌, List, [], ◌++◌, length, take, drop, refl, sym, ◌∙◌, ap, subst, arith, Option, Some, None, IfSome, Result, Ok, Err, OnOk, OnErr, IfOk, append_assoc, length-append, length-drop}
use Rattle.std.specs.Prelude.{option_map}
use Rattle.std.proofs.lemmas.List.{append-nil, take-append-drop, drop-append-le, take-append-le, length-take-le}
use Rattle.std.proofs.Math.Seq.{take-append-add}
use Rattle.m2v_port.specs.Ends.{Change, Tells}
use Rattle.m2v_port.specs.Port.{Moves, IsAtEnd}
use Rattle.m2v_port.proofs.Runs.{moves_nothing, moves_on}
use Rattle.m2v_y4m.specs.declared.answer.Y4mFault.{Y4mFault}
use Rattle.m2v_y4m.specs.declared.header.Y4mHeader.{Y4mHeader}
use Rattle.m2v_y4m.specs.Texts.{onward}
use Rattle.m2v_y4m.specs.Header.{opening}
use Rattle.m2v_y4m.specs.Frames.{Coming, with_front, size_of, Begins}
use Rattle.m2v_y4m.specs.Sources.{Standing, coming_at, unless_broken, coming, comes_of, most_ahead, Spot, spot, ReadOn, TookText, IsOpen}
use Rattle.m2v_y4m.specs.Reading.{Held, Gave, GaveFewer, ReadFewer, comes_at, TookLine}
use Rattle.m2v_y4m.specs.Answers.{Gives}
use Rattle.m2v_y4m.proofs.LineLaws.{frame_line_stays, opening_stays, take_all, drop_all}
use Rattle.m2v_y4m.proofs.FrameLaws.{coming_line, coming_on}
use Rattle.m2v_y4m.proofs.Steps.{comes_behind, opened_text}

-- what was given whatever follows was given of the text that is there
pub gave_by : (old new : Spot) (bytes : List ℕ) → ReadOn old bytes new → Gave (comes_at old) bytes (comes_at new)
gave_by old new bytes on = record { was = ap (comes_of old.at) on.moved.was ∙ by_case new.left }
  where
    by_case : (o : Option (List ℕ)) → comes_of old.at (option_map (λ rest. on.taken ++ rest) o) ≡ option_map (with_front bytes) (comes_of new.at o)
    by_case None = refl
    by_case (Some rest) = ap Some (on.comes rest)

-- nothing was read
pub read_none : (s : Standing) (left left_then : Option (List ℕ)) → s.fault ≡ None → Moves left [] left_then → ReadOn (spot s left) [] (spot s left_then)
read_none s left left_then none moves = record {
  taken = [];
  used = [];
  moved = moves;
  split = append-nil s.unread;
  place = λ n is. omega (arith, is);
  header = refl;
  unbroken = none;
  comes = λ rest. refl;
}

pub read_here : (s : Standing) (left : Option (List ℕ)) → s.fault ≡ None → ReadOn (spot s left) [] (spot s left)
read_here s left none = read_none s left left none (moves_nothing left)

-- one step after another
pub read_on : (a b c : Spot) (xs ys : List ℕ) → ReadOn a xs b → ReadOn b ys c → ReadOn a (xs ++ ys) c
read_on a b c xs ys first second = record {
  taken = first.taken ++ second.taken;
  used = first.used ++ second.used;
  moved = moves_on first.moved second.moved;
  split = sym (append_assoc a.at.unread first.taken second.taken) ∙ ap (λ l. l ++ second.taken) first.split
      ∙ append_assoc first.used b.at.unread second.taken ∙ ap (λ l. first.used ++ l) second.split ∙ sym (append_assoc first.used second.used c.at.unread);
  place = λ n is. second.place (n + length first.used) (first.place n is) ∙ ap (onward 0) (longer n);
  header = second.header ∙ first.header;
  unbroken = second.unbroken;
  comes = λ rest. ap (coming a.at) (append_assoc first.taken second.taken rest) ∙ first.comes (second.taken ++ rest) ∙ ap (with_front xs) (second.comes rest)
      ∙ ap (λ l. record { raw = l; fault = (coming c.at rest).fault }) (sym (append_assoc xs ys (coming c.at rest).raw));
}
  where
    longer : (n : ℕ) → n + length first.used + length second.used ≡ n + length (first.used ++ second.used)
    longer n = omega (arith, length-append first.used second.used)

-- what was read ahead
pub looked_on : (s was : Standing) (u : List ℕ) (left left_then : Option (List ℕ)) → s ≡ was → Held s.unread left u left_then → was.fault ≡ None
    → ReadOn (spot was left) [] (spot (record s { unread = u }) left_then)
unfolding coming
looked_on s was u left left_then is held none = subst (λ (x : Standing). ReadOn (spot x left) [] (spot (record s { unread = u }) left_then)) is (record {
  taken = held.bytes;
  used = [];
  moved = held.moved;
  split = sym held.grown;
  place = λ n at. omega (arith, at);
  header = refl;
  unbroken = ap (λ (x : Standing). x.fault) is ∙ none;
  comes = λ rest. ap (λ l. unless_broken s.fault (coming_at (size_of s.header) s.line s.rest s.place l))
      (sym (append_assoc s.unread held.bytes rest) ∙ ap (λ l. l ++ rest) (sym held.grown));
})

-- a line that was read ahead
pub line_on : (s t : Standing) (left : Option (List ℕ)) → s.rest ≡ 0 → s.fault ≡ None → 1 ≤ size_of s.header → 1 ≤ length s.unread → TookLine s t → ReadOn (spot s left) [] (spot t left)
unfolding coming
line_on s t left edge none big some took = subst (λ (x : Standing). ReadOn (spot s left) [] (spot x left)) (sym took.after) (record {
  taken = [];
  used = take took.n s.unread;
  moved = moves_nothing left;
  split = append-nil s.unread ∙ sym (take-append-drop took.n s.unread);
  place = λ k is. omega (arith, is, length-take-le took.n s.unread took.fits);
  header = refl;
  unbroken = none;
  comes = λ rest. rw (none, edge)
      (coming_line (size_of s.header) s.line s.place took.n (s.unread ++ rest) big (omega (arith, some, length-append s.unread rest)) (frame_line_stays s.unread rest took.n took.is)
      ∙ ap (coming_at (size_of s.header) s.place (size_of s.header) (onward s.place took.n)) (drop-append-le took.n s.unread rest took.fits));
})

-- bytes of a frame that were read ahead
pub held_on : (s : Standing) (n : ℕ) (got : List ℕ) (left : Option (List ℕ)) → s.fault ≡ None → 0 < n → n ≤ s.rest → s.rest ≤ size_of s.header → n ≤ length s.unread
    → got ≡ take n s.unread
    → ReadOn (spot s left) got (spot (record s { unread = drop n s.unread; rest = s.rest - n; place = onward s.place n }) left)
unfolding coming
held_on s n got left none some within most fits is = record {
  taken = [];
  used = take n s.unread;
  moved = moves_nothing left;
  split = append-nil s.unread ∙ sym (take-append-drop n s.unread);
  place = λ k at. omega (arith, at, length-take-le n s.unread fits);
  header = refl;
  unbroken = none;
  comes = λ rest. rw (none, is)
      (coming_on (size_of s.header) s.line s.rest s.place n (s.unread ++ rest) some within most (omega (arith, fits, length-append s.unread rest))
      ∙ ap (λ l. with_front l (coming_at (size_of s.header) s.line (s.rest - n) (onward s.place n) (drop n (s.unread ++ rest)))) (take-append-le n s.unread rest fits)
      ∙ ap (λ l. with_front (take n s.unread) (coming_at (size_of s.header) s.line (s.rest - n) (onward s.place n) l)) (drop-append-le n s.unread rest fits));
}

-- bytes of a frame that were read now
pub read_now : (s : Standing) (n : ℕ) (bytes : List ℕ) (left left_then : Option (List ℕ)) → s.fault ≡ None → s.unread ≡ [] → 0 < n → n ≤ s.rest
    → s.rest ≤ size_of s.header → length bytes ≡ n → Moves left bytes left_then
    → ReadOn (spot s left) bytes (spot (record s { rest = s.rest - n; place = onward s.place n }) left_then)
read_now s n bytes left left_then none empty some within most count moves =
    let after : Standing = record s { unread = bytes } in
    let all : take n bytes ≡ bytes = take_all n bytes (omega (arith, count)) in
    let rest : drop n bytes ≡ s.unread = drop_all n bytes (omega (arith, count)) ∙ sym empty in
    let looked = looked_on s s bytes left left_then refl (record { bytes = bytes; moved = moves; grown = ap (λ l. l ++ bytes) (sym empty) }) none in
    let held = held_on after n bytes left_then none some within most (omega (arith, count)) (sym all) in
    subst (λ (u : List ℕ). ReadOn (spot s left) bytes (spot (record s { unread = u; rest = s.rest - n; place = onward s.place n }) left_then)) rest
    (read_on (spot s left) (spot after left_then) (spot (record s { unread = drop n bytes; rest = s.rest - n; place = onward s.place n }) left_then) [] bytes looked held)

-- the text ended inside a frame of which some bytes are there
pub ended_on : {E : Type 0} (r : Result ℕ E) (s t : Standing) (buf : List ℕ) (left left_then : Option (List ℕ)) → s.fault ≡ None → Moves left [] left_then → IfOk r (λ n. n ≡ 0)
    → OnOk r ((t ≡ s) × (s.rest < size_of s.header)) → IfOk r (λ n. ReadOn (spot s left) (take n buf) (spot t left_then))
ended_on (Ok n) s t buf left left_then none moves zero is =
    subst (λ (k : ℕ). ReadOn (spot s left) (take k buf) (spot t left_then)) (sym zero)
    (subst (λ (x : Standing). ReadOn (spot s left) [] (spot x left_then)) (sym is.0) (read_none s left left_then none moves))
ended_on (Err e) s t buf left left_then none moves zero is = tt

-- where the text broke, a fault stands
pub broke_on : (s t : Standing) (f : Y4mFault) → t ≡ record s { fault = Some f } → t.fault ≡ None → ⊥
broke_on s t f is none =
    let some : Some f ≡ None = sym (ap (λ (x : Standing). x.fault) is) ∙ none in
    absurd (cc)

pub ended_broke : {E : Type 0} (r : Result ℕ E) (s t : Standing) (f : Y4mFault) (a : Spot) (b : Spot) → OnErr r ((t ≡ record s { fault = Some f }) × (s.rest ≡ size_of s.header))
    → OnErr r (t.fault ≡ None → ReadOn a [] b)
ended_broke (Ok n) s t f a b is = tt
ended_broke (Err e) s t f a b is = λ none. absurd (broke_on s t f is.0 none)

-- behind a step that gave nothing
pub read_behind : {E : Type 0} (r : Result ℕ E) (a b c : Spot) (buf : List ℕ) → ReadOn a [] b → IfOk r (λ n. ReadOn b (take n buf) c) → IfOk r (λ n. ReadOn a (take n buf) c)
read_behind (Ok n) a b c buf first second = read_on a b c [] (take n buf) first second
read_behind (Err e) a b c buf first second = tt

pub stood_behind : {T E : Type 0} (r : Result T E) (a b c : Spot) → ReadOn a [] b → OnErr r (c.at.fault ≡ None → ReadOn b [] c) → OnErr r (c.at.fault ≡ None → ReadOn a [] c)
stood_behind (Ok v) a b c first second = tt
stood_behind (Err e) a b c first second = λ none. read_on a b c [] [] first (second none)

-- ---- buffers

take_into : (buf got rest : List ℕ) (filled n : ℕ) → filled ≤ length buf → n ≤ length got → take (filled + n) (take filled buf ++ (got ++ rest)) ≡ take filled buf ++ take n got
take_into buf got rest filled n fits within =
    let is : length (take filled buf) ≡ filled = length-take-le filled buf fits in
    ap (λ k. take (k + n) (take filled buf ++ (got ++ rest))) (sym is) ∙ take-append-add (take filled buf) (got ++ rest) n ∙ ap (λ l. take filled buf ++ l) (take-append-le n got rest within)

pub read_into : (a b c : Spot) (buf got rest : List ℕ) (filled n : ℕ) → filled ≤ length buf → n ≤ length got
    → ReadOn a (take filled buf) b → ReadOn b (take n got) c → ReadOn a (take (filled + n) (take filled buf ++ (got ++ rest))) c
read_into a b c buf got rest filled n fits within first second =
    subst (λ l. ReadOn a l c) (sym (take_into buf got rest filled n fits within)) (read_on a b c (take filled buf) (take n got) first second)

-- some raw bytes were given, and then a read failed
pub read_fewer : (a b c : Spot) (buf : List ℕ) (filled bound : ℕ) → filled ≤ length buf → filled < bound → ReadOn a (take filled buf) b → ReadOn b [] c → ReadFewer a bound c
read_fewer a b c buf filled bound within less first second = record {
  part = take filled buf;
  fewer = omega (arith, less, length-take-le filled buf within);
  read = subst (λ l. ReadOn a l c) (append-nil (take filled buf)) (read_on a b c (take filled buf) [] first second);
}

pub gave_fewer : (a b : Spot) (c : Option Coming) (buf : List ℕ) (filled bound : ℕ) → filled ≤ length buf → filled < bound → ReadOn a (take filled buf) b → c ≡ comes_at b → GaveFewer (comes_at a) bound c
gave_fewer a b c buf filled bound within less first same = record {
  part = take filled buf;
  fewer = omega (arith, less, length-take-le filled buf within);
  gave = subst (Gave (comes_at a) (take filled buf)) (sym same) (gave_by a b (take filled buf) first);
}

-- at the end a read gives nothing
pub read_into_none : (a b c : Spot) (buf got rest : List ℕ) (filled n : ℕ) → filled ≤ length buf → n ≤ length got → n ≡ 0
    → ReadOn a (take filled buf) b → ReadOn b (take n got) c → ReadOn a (take filled (take filled buf ++ (got ++ rest))) c
read_into_none a b c buf got rest filled n fits within none first second =
    let same : filled + n ≡ filled = omega (arith, none) in
    subst (λ k. ReadOn a (take k (take filled buf ++ (got ++ rest))) c) same (read_into a b c buf got rest filled n fits within first second)

-- ---- what was taken

-- the header line was read
opened_taken : (s : Standing) (u : List ℕ) (left left_then : Option (List ℕ)) → length u ≤ most_ahead → Held [] left u left_then
    → opening u ≡ Ok (record { header = s.header; length = s.place }) → s.unread ≡ drop s.place u → s.place ≤ length u → s.rest ≡ 0 → s.fault ≡ None
    → TookText left [] s left_then
opened_taken s u left left_then few held opens unread within edge none = record {
  taken = u;
  moved = subst (λ l. Moves left l left_then) (sym held.grown) held.moved;
  is = record {
    used = take s.place u;
    split = sym (take-append-drop s.place u) ∙ ap (λ l. take s.place u ++ l) (sym unread);
    place = omega (arith, length-take-le s.place u within, within, few);
    ahead = omega (arith, few, ap length unread, length-drop s.place u);
    unbroken = none;
    begins = λ rest. record {
      length = s.place;
      opens = opening_stays u rest (record { header = s.header; length = s.place }) opens;
      comes = comes_behind s u rest unread within edge none;
    };
  };
}

pub opened : (s : Standing) (u : List ℕ) (left left_then : Option (List ℕ)) → length u ≤ most_ahead → Held [] left u left_then → (length u < 1024 → IsAtEnd left_then)
    → opening u ≡ Ok (record { header = s.header; length = s.place }) → s.unread ≡ drop s.place u → s.place ≤ length u → s.rest ≡ 0 → s.fault ≡ None
    → IsOpen left s left_then
opened s u left left_then few held all opens unread within edge none = record {
  unbroken = none;
  opens = opened_text s u left left_then held all opens unread within edge none;
  took = opened_taken s u left left_then few held opens unread within edge none;
}

-- and it was read on
pub taken_on : (old : Option (List ℕ)) (s t : Standing) (mid new : Option (List ℕ)) (xs ys : List ℕ) → TookText old xs s mid → ReadOn (spot s mid) ys (spot t new) → length t.unread ≤ most_ahead
    → TookText old (xs ++ ys) t new
taken_on old s t mid new xs ys took on few = record {
  taken = took.taken ++ on.taken;
  moved = moves_on took.moved on.moved;
  is = record {
    used = took.is.used ++ on.used;
    split = ap (λ l. l ++ on.taken) took.is.split ∙ append_assoc took.is.used s.unread on.taken ∙ ap (λ l. took.is.used ++ l) on.split
        ∙ sym (append_assoc took.is.used on.used t.unread);
    place = on.place (length took.is.used) took.is.place ∙ ap (onward 0) longer;
    ahead = few;
    unbroken = on.unbroken;
    begins = λ rest.
        subst (λ (h : Y4mHeader). Begins ((took.taken ++ on.taken) ++ rest) h (with_front (xs ++ ys) (coming t rest))) (sym on.header)
        (subst (λ (l : List ℕ). Begins l s.header (with_front (xs ++ ys) (coming t rest))) (sym (append_assoc took.taken on.taken rest))
        (subst (Begins (took.taken ++ (on.taken ++ rest)) s.header) (comes rest) (took.is.begins (on.taken ++ rest))));
  };
}
  where
    longer : length took.is.used + length on.used ≡ length (took.is.used ++ on.used)
    longer = sym (length-append took.is.used on.used)

    comes : (rest : List ℕ) → with_front xs (coming s (on.taken ++ rest)) ≡ with_front (xs ++ ys) (coming t rest)
    comes rest = ap (with_front xs) (on.comes rest) ∙ ap (λ l. record { raw = l; fault = (coming t rest).fault }) (sym (append_assoc xs ys (coming t rest).raw))

-- what was taken of the text that was told
pub taken_gives : (left : Change) (bytes : List ℕ) (s : Standing) → TookText left.old bytes s left.new → Tells left (λ text. Gives text s.header bytes)
taken_gives left bytes s took = subst (λ o. IfSome o (λ text. Gives text s.header bytes)) (sym took.moved.was) (by_case left.new)
  where
    by_case : (o : Option (List ℕ)) → IfSome (option_map (λ rest. took.taken ++ rest) o) (λ text. Gives text s.header bytes)
    by_case None = tt
    by_case (Some rest) = record { coming = with_front bytes (coming s rest); rest = (coming s rest).raw; begins = took.is.begins rest; is = refl }
