-- Units that are read one after another in the whole stream, and the same units behind a cut.
use Rattle.std.proofs.Common.{◌≡◌, ℕ, Bool, true, false, List, [], ◌∷◌, ◌++◌, Some, None, Result, Ok, Err, inl, inr, refl, sym, ap, subst, ◌∙◌, append_assoc, append-nil}
use Rattle.std.specs.Prelude.{is_some, ◌||◌, if◌then◌else◌}
use Rattle.m2v_bits.specs.Syntax.{bind, seq, done, Rounds, last, more}
use Rattle.m2v_bits.proofs.SyntaxLaws.{good, good_is}
use Rattle.m2v_model.specs.declared.fault.FaultKind.{FaultKind}
use Rattle.m2v_model.specs.declared.state.FirstField.{FirstField}
use Rattle.m2v_model.specs.declared.state.State.{State}
use Rattle.m2v_model.specs.Units.{Units, unit_bits}
use Rattle.m2v_model.specs.States.{is_b, is_frame}
use Rattle.m2v_model.specs.Streams.{Part, Sofar, sequence, group, picture, matrices, slice, unread_slice, skipped_unit, ending, over, after, value_of, text_end, unit_round}
use Rattle.m2v_model.specs.Pictures.{Store, Pictures, Events, pictures_in, told_by, store_after, events_from, store_from}
use Rattle.m2v_model.specs.ByPieces.{unit_read}
use Rattle.m2v_model.specs.Pieces.{is_end}
use Rattle.m2v_model.proofs.StreamLaws.{known_lawful, round_lawful, text_end_lawful}
use Rattle.m2v_model.proofs.FlowLaws.{joining, round_is}
use Rattle.m2v_model.proofs.ShiftLaws.{BeginsPiece, NoEnds, Kept, shifted, unit_shifted, unit_kept}
use Rattle.m2v_model.proofs.SplitLaws.{IsKnown, KnownBy, known_goes}
use Rattle.m2v_model.proofs.EventLaws.{pictures_in-append}
use Rattle.m2v_law_group.proofs.Shows.{AreBeside}
use Rattle.m2v_law_group.proofs.Alike.{IsLeftSlice, PartsAlike, known_follows}
use Rattle.m2v_law_group.proofs.Counted.{Fits, anchors_by}
use Rattle.m2v_law_group.proofs.Steps.{AreBoth, FitsPart, fresh_after, anchor_there, ToldBeside, Stepped, steps}

-- ---- runs

-- units that are read as parts, one after another
pub data Run : State → Units → List Part → State → Units → Type 0 where
  stop : {st : State} {us : Units} → Run st us [] st us
  step : {st z : State} {us mid rest : Units} {p : Part} {ps : List Part} → unit_read st us ≡ good ((true, p), mid) → Run (after st p) mid ps z rest → Run st us (p ∷ ps) z rest

-- and up to the one behind which nothing is read
pub data Ends : State → Units → List Part → State → Units → Type 0 where
  finish : {st : State} {us rest : Units} {p : Part} → unit_read st us ≡ good ((false, p), rest) → Ends st us (p ∷ []) (after st p) rest
  going : {st z : State} {us mid rest : Units} {p : Part} {ps : List Part} → unit_read st us ≡ good ((true, p), mid) → Ends (after st p) mid ps z rest → Ends st us (p ∷ ps) z rest

abbrev sofar : State → List Part → Sofar
sofar st ps = record { state = st; parts = ps }

-- what a round read
record IsRound (s m : Sofar) (b : Bool) (t mid : Units) : Type 0 where
  part : Part
  read : unit_read s.state t ≡ good ((b, part), mid)
  state : m.state ≡ after s.state part
  parts : m.parts ≡ s.parts ++ part ∷ []

round_part : (s m : Sofar) (b : Bool) (t mid : Units) (r : Result ((Bool × Part) × Units) (FaultKind × ℕ)) → unit_read s.state t ≡ r → bind r (joining s) ≡ good ((b, m), mid) → IsRound s m b t mid
unfolding bind
round_part s m b t mid (Ok ((c, p), rest)) e j =
    let same = good_is {K = FaultKind} _ _ j in
    let bools : c ≡ b = ap (λ (y : (Bool × Sofar) × Units). (y.0).0) same in
    let rests : rest ≡ mid = ap (λ (y : (Bool × Sofar) × Units). y.1) same in
    let made = ap (λ (y : (Bool × Sofar) × Units). (y.0).1) same in
    record {
      part = p;
      read = e ∙ ap (λ (x : Bool). good {K = FaultKind} ((x, p), rest)) bools ∙ ap (λ (x : Units). good {K = FaultKind} ((b, p), x)) rests;
      state = sym (ap (λ (y : Sofar). y.state) made);
      parts = sym (ap (λ (y : Sofar). y.parts) made);
    }
round_part s m b t mid (Err f) e j = absurd cc

round_read : (s m : Sofar) (b : Bool) (t mid : Units) → (unit_round s).Stands (b, m) t mid → IsRound s m b t mid
round_read s m b t mid h = round_part s m b t mid (unit_read s.state t) refl (sym (round_is s t) ∙ (round_lawful s).only (b, m) t mid h)

round_stands : (st : State) (xs : List Part) (b : Bool) (p : Part) (t mid : Units) → unit_read st t ≡ good ((b, p), mid) → (unit_round (sofar st xs)).Stands (b, sofar (after st p) (xs ++ p ∷ [])) t mid
unfolding bind
round_stands st xs b p t mid e = (round_lawful (sofar st xs)).found (b, sofar (after st p) (xs ++ p ∷ [])) t mid (round_is (sofar st xs) t ∙ rw e refl)

-- rounds as parts
record IsEnded (s z : Sofar) (t rest : Units) : Type 0 where
  own : List Part
  parts : z.parts ≡ s.parts ++ own
  ends : Ends s.state t own z.state rest

pub ended : (s z : Sofar) (t rest : Units) → Rounds unit_round s z t rest → (ps : List Part) × (z.parts ≡ s.parts ++ ps) × Ends s.state t ps z.state rest
ended s z t rest (last h) =
    let r = round_read s z false _ _ h in
    (r.part ∷ [], r.parts, subst (λ (y : State). Ends s.state t (r.part ∷ []) y rest) (sym r.state) (finish r.read))
ended s z t rest (more {m = m} {mid = mid} h later) =
    let r = round_read s m true _ _ h in
    let e = ended m z _ _ later in (
      r.part ∷ e.0,
      e.1 ∙ ap (λ (l : List Part). l ++ e.0) r.parts ∙ append_assoc s.parts (r.part ∷ []) e.0,
      going r.read (subst (λ (y : State). Ends y mid e.0 z.state rest) r.state e.2),
    )

-- a run, and the rounds behind it
pub rounds_by : {st z : State} {us mid : Units} {ps : List Part} → Run st us ps z mid → (xs : List Part) (y : Sofar) (rest : Units) → Rounds unit_round (sofar z (xs ++ ps)) y mid rest → Rounds unit_round (sofar st xs) y us rest
rounds_by {st} {z} {us} stop xs y rest h = subst (λ (l : List Part). Rounds unit_round (sofar st l) y us rest) (append-nil xs) h
rounds_by {st} {z} {us} {mid} (step {p = p} {ps = later} e r) xs y rest h =
    more (round_stands st xs true p _ _ e) (rounds_by r (xs ++ p ∷ []) y rest (subst (λ (l : List Part). Rounds unit_round (sofar z l) y mid rest) (sym (append_assoc xs (p ∷ []) later)) h))

pub last_round : (st : State) (xs : List Part) (p : Part) (t mid : Units) → unit_read st t ≡ good ((false, p), mid) → Rounds unit_round (sofar st xs) (sofar (after st p) (xs ++ p ∷ [])) t mid
last_round st xs p t mid e = last (round_stands st xs false p t mid e)

pub run_then : {a b c : State} {us vs ws : Units} {ps qs : List Part} → Run a us ps b vs → Run b vs qs c ws → Run a us (ps ++ qs) c ws
run_then stop s = s
run_then (step e r) s = step e (run_then r s)

-- ---- no unit

pub none_ends : (st : State) (x : Bool × Part) (mid : Units) → unit_read st [] ≡ good (x, mid) → x.0 ≡ false
unfolding unit_read text_end seq done
none_ends st x mid e = ap (λ (y : Bool × Part). y.0) ((text_end_lawful st 0).found x [] mid e).3.3.0

-- ---- units before others

-- a unit is read the same where others stand behind that begin a piece
pub read_before : (st : State) (us vs mid : Units) (p : Part) → BeginsPiece vs → unit_read st us ≡ good ((true, p), mid) → unit_read st (us ++ vs) ≡ good ((true, p), mid ++ vs)
read_before st [] vs mid p b e = let wrong = none_ends st (true, p) mid e in absurd cc
read_before st (u ∷ us) vs mid p b e = unit_shifted vs b st u us ∙ ap (shifted vs) e

pub run_before : {st z : State} {us mid : Units} {ps : List Part} → (vs : Units) → BeginsPiece vs → Run st us ps z mid → Run st (us ++ vs) ps z (mid ++ vs)
run_before vs b stop = stop
run_before vs b (step e r) = step (read_before _ _ vs _ _ b e) (run_before vs b r)

-- what is read of units with others behind is read of them alone
record IsBefore (st : State) (us vs : Units) (b : Bool) (p : Part) (mid : Units) : Type 0 where
  own : Units
  read : unit_read st us ≡ good ((b, p), own)
  rest : mid ≡ own ++ vs

before_by : (st : State) (us vs mid : Units) (b : Bool) (p : Part) (r : Result ((Bool × Part) × Units) (FaultKind × ℕ)) → unit_read st us ≡ r → shifted vs r ≡ good ((b, p), mid) → IsBefore st us vs b p mid
before_by st us vs mid b p (Ok (x, own)) e s =
    let same = good_is {K = FaultKind} _ _ s in
    record { own = own; read = e ∙ ap (λ (y : Bool × Part). good {K = FaultKind} (y, own)) (ap (λ (y : (Bool × Part) × Units). y.0) same); rest = sym (ap (λ (y : (Bool × Part) × Units). y.1) same) }
before_by st us vs mid b p (Err f) e s = absurd cc

goes : (st : State) (u : List ℕ) (us mid : Units) (b : Bool) (p : Part) → is_end (value_of u) ≡ false → KnownBy st u → unit_read st (u ∷ us) ≡ good ((b, p), mid) → (b ≡ true) × IsKnown (after st p)
unfolding unit_read
goes st u us mid b p off k e = known_goes st (unit_bits (u ∷ us)) u (b, p) us mid off k ((known_lawful st (unit_bits (u ∷ us)) (value_of u) u).found (b, p) us mid e)

-- a sequence header is in force at the first unit, where there is one, or it is one
abbrev pub KnownThere : State → Units → Type 0
KnownThere st [] = Unit {0}
KnownThere st (u ∷ us) = KnownBy st u

pub known_there : (st : State) (us : Units) → IsKnown st → KnownThere st us
known_there st [] k = tt
known_there st (u ∷ us) k = rw k refl

-- units up to others that begin a piece
pub record IsSplit (st : State) (us vs : Units) (ps : List Part) (z : State) (rest : Units) : Type 0 where
  pub mine : List Part
  pub others : List Part
  pub parts : ps ≡ mine ++ others
  pub between : State
  pub run : Run st us mine between []
  pub later : Ends between vs others z rest

pub split : {st z : State} {t rest : Units} {ps : List Part} → Ends st t ps z rest → (us vs : Units) → t ≡ us ++ vs → BeginsPiece vs → NoEnds us → KnownThere st us → IsSplit st us vs ps z rest
split {st} {z} {t} {rest} {ps} h [] vs e b n k = record { mine = []; others = ps; parts = refl; between = st; run = stop; later = subst (λ (l : Units). Ends st l ps z rest) e h }
split {st} {z} {t} {rest} (finish {p = p} h) (u ∷ us) vs e b n k =
    let r : unit_read st (u ∷ (us ++ vs)) ≡ good ((false, p), rest) = subst (λ (l : Units). unit_read st l ≡ good ((false, p), rest)) e h in
    let own = before_by st (u ∷ us) vs rest false p _ refl (sym (unit_shifted vs b st u us) ∙ r) in
    let g = goes st u us own.own false p n.0 k own.read in
    let wrong = g.0 in absurd cc
split {st} {z} {t} {rest} (going {mid = mid} {p = p} {ps = ps} h later) (u ∷ us) vs e b n k =
    let r : unit_read st (u ∷ (us ++ vs)) ≡ good ((true, p), mid) = subst (λ (l : Units). unit_read st l ≡ good ((true, p), mid)) e h in
    let own = before_by st (u ∷ us) vs mid true p _ refl (sym (unit_shifted vs b st u us) ∙ r) in
    let g = goes st u us own.own true p n.0 k own.read in
    let none : NoEnds own.own = subst Kept own.read (unit_kept st u us n.1) in
    let i = split later own.own vs own.rest b none (known_there (after st p) own.own g.1) in
    record { mine = p ∷ i.mine; others = i.others; parts = ap (λ (l : List Part). p ∷ l) i.parts; between = i.between; run = step own.read i.run; later = i.later }

-- ---- the same units behind a cut

-- all parts fit, behind so many anchors of the cut, and where a second field is due or isn't
abbrev pub AllFit : Bool → Bool → Bool → ℕ → Bool → List Part → Type 0
AllFit ready changed fresh anchors second [] = Unit {0}
AllFit ready changed fresh anchors second (sequence s ∷ ps) = AllFit ready changed fresh anchors second ps
AllFit ready changed fresh anchors second (group g ∷ ps) = (ready ≡ true → changed ≡ true → anchors ≡ 0 → ⊥) × AllFit ready changed true anchors second ps
AllFit ready changed fresh anchors second (picture info extension ∷ ps) =
    ((ready ≡ true) × Fits changed fresh anchors info.kind)
    × AllFit ready changed false (anchors_by (is_frame extension || second) (is_b info.kind) anchors) (if is_frame extension || second then false else true) ps
AllFit ready changed fresh anchors second (matrices m ∷ ps) = AllFit ready changed fresh anchors second ps
AllFit ready changed fresh anchors second (slice row x ∷ ps) = AllFit ready changed fresh anchors second ps
AllFit ready changed fresh anchors second (unread_slice row u ∷ ps) = AllFit ready changed fresh anchors second ps
AllFit ready changed fresh anchors second (skipped_unit u ∷ ps) = AllFit ready changed fresh anchors second ps
AllFit ready changed fresh anchors second (ending ∷ ps) = AllFit ready changed fresh anchors second ps
AllFit ready changed fresh anchors second (over ∷ ps) = AllFit ready changed fresh anchors second ps

abbrev FitBehind : Bool → Bool → Bool → State → List Part → Type 0
FitBehind ready changed fresh c ps = AllFit ready changed fresh c.anchors (is_some c.waiting) ps

first_fits : (ready changed fresh : Bool) (c : State) (p : Part) (ps : List Part) → FitBehind ready changed fresh c (p ∷ ps) → FitsPart ready changed fresh c p
first_fits ready changed fresh c (group g) ps h = h.0
first_fits ready changed fresh c (picture info extension) ps h = h.0
first_fits ready changed fresh c _ ps h = tt

waits_by : (ends : Bool) (f : FirstField) → (if ends then false else true) ≡ is_some (if ends then None else Some f)
waits_by true f = refl
waits_by false f = refl

others_fit_same : (ready changed fresh : Bool) (c : State) (p : Part) (ps : List Part) → FitBehind ready changed fresh c (p ∷ ps) → FitBehind ready changed (fresh_after fresh p) (after c p) ps
unfolding after
others_fit_same ready changed fresh c (sequence s) ps h = h
others_fit_same ready changed fresh c (group g) ps h = h.1
others_fit_same ready changed fresh c (picture info extension) ps h =
    let ends = is_frame extension || is_some c.waiting in
    subst (λ (b : Bool). AllFit ready changed false (anchors_by ends (is_b info.kind) c.anchors) b ps) (waits_by ends (record { kind = info.kind; structure = extension.structure })) h.1
others_fit_same ready changed fresh c (matrices m) ps h = h
others_fit_same ready changed fresh c (slice row x) ps h = h
others_fit_same ready changed fresh c (unread_slice row u) ps h = h
others_fit_same ready changed fresh c (skipped_unit u) ps h = h
others_fit_same ready changed fresh c ending ps h = h
others_fit_same ready changed fresh c over ps h = h

others_fit_left : (ready changed fresh : Bool) (w c : State) (u : List ℕ) (p q : Part) (ps : List Part) → IsLeftSlice w c u p q → FitBehind ready changed fresh c (p ∷ ps) → FitBehind ready changed (fresh_after fresh p) (after c q) ps
unfolding after
others_fit_left ready changed fresh w c u p q ps l h =
    subst (λ (y : Part). FitBehind ready changed (fresh_after fresh y) (after c q) ps) (sym l.whole)
    (subst (λ (y : Part). FitBehind ready changed fresh (after c y) ps) (sym l.cut) (subst (λ (y : Part). FitBehind ready changed fresh c (y ∷ ps)) l.whole h))

others_fit : (ready changed fresh : Bool) (w c : State) (u : List ℕ) (p q : Part) (ps : List Part) → PartsAlike w c u p q → FitBehind ready changed fresh c (p ∷ ps) → FitBehind ready changed (fresh_after fresh p) (after c q) ps
others_fit ready changed fresh w c u p q ps (inl same) h = subst (λ (y : Part). FitBehind ready changed (fresh_after fresh p) (after c y) ps) (sym same) (others_fit_same ready changed fresh c p ps h)
others_fit ready changed fresh w c u p q ps (inr l) h = others_fit_left ready changed fresh w c u p q ps l h

-- ---- a unit

record ReadsBoth (ready changed fresh : Bool) (k : ℕ) (w c : State) (sw sc : Store) (us mid : Units) (p : Part) (ps : List Part) : Type 0 where
  q : Part
  read : unit_read c us ≡ good ((true, q), mid)
  stepped : Stepped ready changed fresh k w c sw sc p q
  fit : FitBehind ready changed (fresh_after fresh p) (after c q) ps

reads_both : (ready changed fresh : Bool) (k : ℕ) (w c : State) (sw sc : Store) (us mid : Units) (p : Part) (ps : List Part) → AreBoth ready changed fresh k w c sw sc → FitBehind ready changed fresh c (p ∷ ps) → unit_read w us ≡ good ((true, p), mid)
    → ReadsBoth ready changed fresh k w c sw sc us mid p ps
unfolding unit_read
reads_both ready changed fresh k w c sw sc [] mid p ps b fit e = let wrong = none_ends w (true, p) mid e in absurd cc
reads_both ready changed fresh k w c sw sc (u ∷ us) mid p ps b fit e =
    let start = unit_bits (u ∷ us) in
    let own = first_fits ready changed fresh c p ps fit in
    let s = (known_lawful w start (value_of u) u).found (true, p) us mid e in
    let f = known_follows w c start (value_of u) u b.alike (true, p) us mid s (anchor_there ready changed fresh k w c sw sc p b own) in
    record {
      q = f.0;
      read = (known_lawful c start (value_of u) u).only (true, f.0) us mid f.2;
      stepped = steps ready changed fresh k w c sw sc u p f.0 b own f.1.1 f.1.0;
      fit = others_fit ready changed fresh w c u p f.0 ps f.1.0 fit;
    }

-- ---- units

pub told_then : (changed : Bool) (k m n : ℕ) (es fs ds gs : Events) → ToldBeside changed k m es fs → ToldBeside changed m n ds gs → ToldBeside changed k n (es ++ ds) (fs ++ gs)
told_then changed k m n es fs ds gs h g ps qs b =
    let left : pictures_in (es ++ ds) ++ ps ≡ pictures_in es ++ (pictures_in ds ++ ps) = ap (λ (l : Pictures). l ++ ps) (pictures_in-append es ds) ∙ append_assoc (pictures_in es) (pictures_in ds) ps in
    let right : pictures_in (fs ++ gs) ++ qs ≡ pictures_in fs ++ (pictures_in gs ++ qs) = ap (λ (l : Pictures). l ++ qs) (pictures_in-append fs gs) ∙ append_assoc (pictures_in fs) (pictures_in gs) qs in
    subst (λ (l : Pictures). AreBeside changed k l (pictures_in (fs ++ gs) ++ qs)) (sym left)
    (subst (λ (l : Pictures). AreBeside changed k (pictures_in es ++ (pictures_in ds ++ ps)) l) (sym right) (h (pictures_in ds ++ ps) (pictures_in gs ++ qs) (g ps qs b)))

-- the same units are read in both
pub record RunsBoth (ready changed fresh : Bool) (k : ℕ) (w c : State) (sw sc : Store) (us rest : Units) (ps : List Part) (z : State) : Type 0 where
  pub parts : List Part
  pub state : State
  pub run : Run c us parts state rest
  pub later : Bool
  pub next : ℕ
  pub both : AreBoth ready changed later next z state (store_from w sw ps) (store_from c sc parts)
  pub told : ToldBeside changed k next (events_from w sw ps) (events_from c sc parts)

pub runs_both : {w z : State} {us rest : Units} {ps : List Part} → Run w us ps z rest → (ready changed fresh : Bool) (k : ℕ) (c : State) (sw sc : Store) → AreBoth ready changed fresh k w c sw sc → FitBehind ready changed fresh c ps → RunsBoth ready changed fresh k w c sw sc us rest ps z
unfolding events_from store_from
runs_both stop ready changed fresh k c sw sc b fit = record { parts = []; state = c; run = stop; later = fresh; next = k; both = b; told = λ ps qs h. h }
runs_both {w} (step {p = p} {ps = ps} e r) ready changed fresh k c sw sc b fit =
    let o = reads_both ready changed fresh k w c sw sc _ _ p ps b fit e in
    let s = o.stepped in
    let i = runs_both r ready changed (fresh_after fresh p) s.next (after c o.q) (store_after w sw p) (store_after c sc o.q) s.both o.fit in
    record {
      parts = o.q ∷ i.parts;
      state = i.state;
      run = step o.read i.run;
      later = i.later;
      next = i.next;
      both = i.both;
      told = told_then changed k s.next i.next (told_by w sw p) (told_by c sc o.q) (events_from (after w p) (store_after w sw p) ps) (events_from (after c o.q) (store_after c sc o.q) i.parts) s.told i.told;
    }
