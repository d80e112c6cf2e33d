-- A stream from a state on, unit by unit, and what is told on the way.
use Rattle.std.proofs.Common.{◌≡◌, ℕ, zero, suc, ◌<◌, Bool, true, false, cond, List, [], ◌∷◌, ◌++◌, length, Result, Ok, Err, refl, sym, ap, subst, ◌∙◌, append_assoc}
use Rattle.m2v_bits.specs.Syntax.{bind, seq, here, done, rounds, repeated}
use Rattle.m2v_bits.proofs.SyntaxLaws.{good, bad, unrolled, round_err, round_more, round_last}
use Rattle.m2v_model.specs.declared.fault.FaultKind.{FaultKind}
use Rattle.m2v_model.specs.declared.fault.FaultKind.TheVariants.{Truncated}
use Rattle.m2v_model.specs.declared.state.State.{State}
use Rattle.m2v_model.specs.Units.{Units, unit_at}
use Rattle.m2v_model.specs.Streams.{Part, Sofar, Among, after, next_unit, unit_round, units_from}
use Rattle.m2v_model.specs.Pictures.{told_by, events_from, store_from}
use Rattle.m2v_model.specs.ByPieces.{Between, Course, behind, unit_read, after_part, course_of, units_read}
use Rattle.m2v_model.proofs.StreamLaws.{round_lawful, round_onward}

-- ---- what a loop over units goes by

-- a stream from what was read so far on
abbrev pub units_at : Sofar → Among Sofar
units_at s = repeated length Truncated unit_round s

pub units_once : (s : Sofar) (t : Units) → (units_at s).read t ≡ bind ((unit_round s).read t) (λ x mid. cond x.0 ((units_at x.1).read mid) (good (x.1, mid)))
units_once = unrolled length Truncated unit_round round_lawful round_onward

pub units_err : (s : Sofar) (t : Units) (f : FaultKind × ℕ) → (unit_round s).read t ≡ bad f → (units_at s).read t ≡ bad f
units_err = round_err length Truncated unit_round round_lawful round_onward

pub units_more : (s m : Sofar) (t mid : Units) (b : Bool) → (unit_round s).read t ≡ good ((b, m), mid) → b ≡ true → (units_at s).read t ≡ (units_at m).read mid
units_more s m t mid b e on = round_more length Truncated unit_round round_lawful round_onward s m t mid (subst (λ (x : Bool). (unit_round s).read t ≡ good ((x, m), mid)) on e)

pub units_last : (s m : Sofar) (t mid : Units) (b : Bool) → (unit_round s).read t ≡ good ((b, m), mid) → b ≡ false → (units_at s).read t ≡ good (m, mid)
units_last s m t mid b e off = round_last length Truncated unit_round round_lawful round_onward s m t mid (subst (λ (x : Bool). (unit_round s).read t ≡ good ((x, m), mid)) off e)

pub units_less : (s m : Sofar) (t mid : Units) (b : Bool) → (unit_round s).read t ≡ good ((b, m), mid) → b ≡ true → length mid < length t
units_less s m t mid b e on = round_onward s m t mid ((round_lawful s).found (true, m) t mid (subst (λ (x : Bool). (unit_round s).read t ≡ good ((x, m), mid)) on e))

-- ---- one unit

abbrev pub joining : Sofar → Bool × Part → Units → Result ((Bool × Sofar) × Units) (FaultKind × ℕ)
joining s x mid = good ((x.0, record { state = after s.state x.1; parts = s.parts ++ x.1 ∷ [] }), mid)

-- a round reads one unit, and puts its part behind the others
pub round_is : (s : Sofar) (t : Units) → (unit_round s).read t ≡ bind (unit_read s.state t) (joining s)
unfolding unit_round unit_read seq here unit_at done next_unit bind
round_is s [] = refl
round_is s (u ∷ us) = refl

-- ---- parts before those that are read

abbrev fronted : List Part → Result (Sofar × Units) (FaultKind × ℕ) → Result (Sofar × Units) (FaultKind × ℕ)
fronted ps (Ok x) = Ok (record { state = (x.0).state; parts = ps ++ (x.0).parts }, x.1)
fronted ps (Err f) = Err f

fronted_twice : (ps qs : List Part) (r : Result (Sofar × Units) (FaultKind × ℕ)) → fronted (ps ++ qs) r ≡ fronted ps (fronted qs r)
fronted_twice ps qs (Ok x) = ap (λ (l : List Part). good {K = FaultKind} (record { state = (x.0).state; parts = l }, x.1)) (append_assoc ps qs (x.0).parts)
fronted_twice ps qs (Err f) = refl

abbrev flow : ℕ → State → List Part → Units → Result (Sofar × Units) (FaultKind × ℕ)
flow n st ps t = rounds Truncated unit_round n (record { state = st; parts = ps }) t

abbrev going : ℕ → Bool × Sofar → Units → Result (Sofar × Units) (FaultKind × ℕ)
going n x mid = cond x.0 (rounds Truncated unit_round n x.1 mid) (Ok (x.1, mid))

parts_next : (n : ℕ) (st : State) (ps : List Part) (ih : (z : State) (qs : List Part) (mid : Units) → flow n z qs mid ≡ fronted qs (flow n z [] mid)) (r : Result ((Bool × Part) × Units) (FaultKind × ℕ))
    → bind (bind r (joining (record { state = st; parts = ps }))) (going n) ≡ fronted ps (bind (bind r (joining (record { state = st; parts = [] }))) (going n))
unfolding bind
parts_next n st ps ih (Ok ((true, p), mid)) = ih (after st p) (ps ++ p ∷ []) mid ∙ fronted_twice ps (p ∷ []) (flow n (after st p) [] mid) ∙ ap (fronted ps) (sym (ih (after st p) (p ∷ []) mid))
parts_next n st ps ih (Ok ((false, p), mid)) = refl
parts_next n st ps ih (Err f) = refl

parts_n : (n : ℕ) (st : State) (ps : List Part) (t : Units) → flow n st ps t ≡ fronted ps (flow n st [] t)
unfolding rounds
parts_n zero st ps t = refl
parts_n (suc n) st ps t =
    ap (λ r. bind r (going n)) (round_is (record { state = st; parts = ps }) t)
    ∙ parts_next n st ps (parts_n n) (unit_read st t)
    ∙ ap (λ r. fronted ps (bind r (going n))) (sym (round_is (record { state = st; parts = [] }) t))

units_parts : (st : State) (ps : List Part) (t : Units) → (units_at (record { state = st; parts = ps })).read t ≡ fronted ps ((units_from st).read t)
unfolding repeated units_from
units_parts st ps t = parts_n (suc (length t)) st ps t

-- ---- what is told

-- a part, and what is read behind it
abbrev pub part_read : Between → Bool × Part → Units → Course
part_read b x mid = behind (told_by b.state b.store x.1) (cond x.0 (units_read (after_part b x.1) mid) (Ok ([], after_part b x.1)))

course_part : (b : Between) (p : Part) (r : Result (Sofar × Units) (FaultKind × ℕ)) → course_of b (fronted (p ∷ []) r) ≡ behind (told_by b.state b.store p) (course_of (after_part b p) r)
unfolding events_from store_from
course_part b p (Ok x) = refl
course_part b p (Err f) = refl

course_next : (b : Between) (r : Result ((Bool × Part) × Units) (FaultKind × ℕ))
    → course_of b (bind (bind r (joining (record { state = b.state; parts = [] }))) (λ x mid. cond x.0 ((units_at x.1).read mid) (good (x.1, mid)))) ≡ bind r (part_read b)
unfolding bind units_read events_from store_from
course_next b (Ok ((true, p), mid)) = ap (course_of b) (units_parts (after b.state p) (p ∷ []) mid) ∙ course_part b p ((units_from (after b.state p)).read mid)
course_next b (Ok ((false, p), mid)) = refl
course_next b (Err f) = refl

-- the first unit, and then the others
pub read_once : (b : Between) (us : Units) → units_read b us ≡ bind (unit_read b.state us) (part_read b)
unfolding units_read units_from
read_once b us =
    ap (course_of b) (units_once (record { state = b.state; parts = [] }) us ∙ ap (λ r. bind r (λ x mid. cond x.0 ((units_at x.1).read mid) (good (x.1, mid)))) (round_is (record { state = b.state; parts = [] }) us))
    ∙ course_next b (unit_read b.state us)

-- ---- what a loop goes by that decodes a unit a round

pub read_err : (b : Between) (us : Units) (f : FaultKind × ℕ) → unit_read b.state us ≡ bad f → units_read b us ≡ Err f
unfolding bind
read_err b us f e = read_once b us ∙ rw e refl

pub read_more : (b : Between) (us mid : Units) (m : Bool) (p : Part) → unit_read b.state us ≡ good ((m, p), mid) → m ≡ true → units_read b us ≡ behind (told_by b.state b.store p) (units_read (after_part b p) mid)
unfolding bind
read_more b us mid m p e on = read_once b us ∙ rw (e, on) refl

pub read_last : (b : Between) (us mid : Units) (m : Bool) (p : Part) → unit_read b.state us ≡ good ((m, p), mid) → m ≡ false → units_read b us ≡ behind (told_by b.state b.store p) (Ok ([], after_part b p))
unfolding bind
read_last b us mid m p e off = read_once b us ∙ rw (e, off) refl

pub unit_less : (st : State) (us mid : Units) (b : Bool) (p : Part) → unit_read st us ≡ good ((b, p), mid) → b ≡ true → length mid < length us
unfolding bind
unit_less st us mid b p e on =
    let s : Sofar = record { state = st; parts = [] } in
    let m : Sofar = record { state = after st p; parts = p ∷ [] } in
    let round : (unit_round s).read us ≡ good ((b, m), mid) = round_is s us ∙ rw e refl in
    units_less s m us mid b round on
