-- From one place of a stretch to the next.
use Rattle.std.proofs.Common.{◌≡◌, ℕ, ◌+◌, ◌≤◌, Bool, true, false, List, [], ◌∷◌, ◌++◌, length, Option, None, inl, inr, refl, sym, ap, ap₂, subst, ◌∙◌, append_assoc, append-nil, arith}
use Rattle.std.specs.Prelude.{if◌then◌else◌}
use Rattle.std.proofs.lemmas.Bool.{cases_Bool}
use Rattle.std.proofs.lemmas.List.{length-append}
use Rattle.m2v_model.specs.declared.phase.Phase.TheVariants.{Headers}
use Rattle.m2v_model.specs.Units.{Units, cut, joined, AreUnits}
use Rattle.m2v_model.specs.Streams.{value_of}
use Rattle.m2v_model.specs.Pieces.{is_end, piece_of, grouped, limit, Limit}
use Rattle.m2v_model.specs.ByPieces.{end_of}
use Rattle.m2v_model.proofs.CutLaws.{cut_cuts, joined-append, are_before}
use Rattle.m2v_dec_piece.proofs.TextLaws.{left_whole}
use Rattle.m2v_decode.specs.m2v_dec_piece.declared.answer.Piece.{Piece}
use Rattle.m2v_decode.specs.m2v_dec_piece.Cutting.{Cutting, open_pieces, open_start, phase_for, start_of, left_of, follows_of}
use Rattle.m2v_decode.specs.m2v_dec_piece.Following.{following_in}
use Rattle.m2v_decode.specs.Decoding.{whole_of}
use Rattle.m2v_law_group.specs.Groups.{to_end}
use Rattle.m2v_law_group.proofs.Texts.{are_swapped, code_bytes}
use Rattle.m2v_law_seam.specs.Spans.{units_of, units_in, stretches}
use Rattle.m2v_law_seam.specs.Mends.{without_ends}
use Rattle.m2v_law_seam.specs.Reading.{IsPieceOfUnits}
use Rattle.m2v_law_seam.proofs.Told.{units_append, none_units, units_first, units_one}
use Rattle.m2v_mend.specs.Answers.{first_limit, limit_among, limit_from, mend_limit}
use Rattle.m2v_mend.specs.Feeding.{bare, bare_pieces, IsBare, IsOwn, HasLastZeros, stretches_at}
use Rattle.m2v_mend.specs.Gathering.{Tally, Gathering, begins_step, begun_with, joined_with, with_piece, with_pieces, before_stretch, stretch_ended, finished, nothing_told, behind_stretches}
use Rattle.m2v_mend.specs.Making.{IsNextPiece}
use Rattle.m2v_mend.specs.Members.{IsOneOfUnits}
use Rattle.m2v_mend.specs.Stretching.{units_with, Lie, AreNext, OnWay}
use Rattle.m2v_mend.proofs.Bare.{text_bared, bare_first, no_pieces}
use Rattle.m2v_mend.proofs.Gathering.{piece_begins, piece_joins}
use Rattle.m2v_mend.proofs.Lying.{text_lies}
use Rattle.m2v_mend.proofs.Nexts.{text_next}
use Rattle.m2v_mend.proofs.Passing.{among_on, among_none, end_is, steps_on}
use Rattle.m2v_mend.proofs.Stretched.{first_made, units_follow}

-- ---- a piece more

-- where the pieces at hand end, and the units of the input so far
record HasMore (g : Gathering) (p : List ℕ) (h : Gathering) : Type 0 where
  end : h.place + length (joined h.pieces) ≡ (g.place + length (joined g.pieces)) + length p
  units : h.before ++ units_in h.pieces ≡ (g.before ++ units_in g.pieces) ++ units_of p
  some : 1 ≤ length h.pieces

more_begun : (g : Gathering) (p : List ℕ) → HasMore g p (begun_with g p)
more_begun g p = record {
  end = ap (λ (l : List ℕ). (g.place + length (joined g.pieces)) + length l) (append-nil p);
  units = ap (λ (l : Units). (g.before ++ units_in g.pieces) ++ l) (units_one p);
  some = omega arith;
}

more_joined : (g : Gathering) (p : List ℕ) → HasMore g p (joined_with g p)
more_joined g p =
    let bytes : joined (g.pieces ++ p ∷ []) ≡ joined g.pieces ++ p = joined-append g.pieces (p ∷ []) ∙ ap (λ (l : List ℕ). joined g.pieces ++ l) (append-nil p) in
    record {
      end = omega (arith, ap length bytes, length-append (joined g.pieces) p);
      units = ap (λ (l : Units). g.before ++ l) (units_append g.pieces (p ∷ []) ∙ ap (λ (l : Units). units_in g.pieces ++ l) (units_one p)) ∙ sym (append_assoc g.before (units_in g.pieces) (units_of p));
      some = omega (arith, length-append g.pieces (p ∷ []));
    }

has_more : (g : Gathering) (p : List ℕ) → HasMore g p (with_piece g p)
has_more g p = elim (cases_Bool (begins_step g.waiting p)) [
  | inl on ↦ subst (HasMore g p) (sym (piece_begins g p on)) (more_begun g p)
  | inr off ↦ subst (HasMore g p) (sym (piece_joins g p off)) (more_joined g p)
]

next_less : (n : ℕ) (ps : List (List ℕ)) → AreNext 1 ps → AreNext n ps
next_less n [] h = tt
next_less n (p ∷ ps) h = (h.0, λ le. h.1 (omega arith), h.2)

next_behind : (n : ℕ) (p : List ℕ) (ps : List (List ℕ)) → AreNext n (p ∷ ps) → (m : ℕ) → AreNext m ps
next_behind n p ps h m = next_less m ps h.2

-- with a piece, and those behind it
pub with_first : (g : Gathering) (p : List ℕ) (ps : List (List ℕ)) → with_pieces g (p ∷ ps) ≡ with_pieces (with_piece g p) ps
unfolding with_pieces
with_first g p ps = refl

pub with_none : (g : Gathering) → with_pieces g [] ≡ g
unfolding with_pieces
with_none g = refl

-- the way by the bytes of the next piece as it is handed out
way_by : (text : List ℕ) (g : Gathering) (start : ℕ) (w : List ℕ) (ws : List (List ℕ)) (follows b : List ℕ) → bare w ≡ b → limit start 0 w ≡ None → OnWay text g start (w ∷ ws) follows → OnWay text (with_pieces g (piece_of b)) (start + length w) ws follows
way_by text g start w ws follows [] e fits way =
    let same : bare_pieces (w ∷ ws) ≡ bare_pieces ws = bare_first w ws ∙ ap (λ (l : List ℕ). piece_of l ++ bare_pieces ws) e in
    subst (λ (h : Gathering). OnWay text h (start + length w) ws follows) (sym (with_none g))
    (record {
      end = way.end;
      sum = way.sum;
      made = way.made ∙ ap (λ (l : List (List ℕ)). behind_stretches (stretch_ended (finished (with_pieces g l))) (stretches_at way.end ((g.before ++ units_in g.pieces) ++ units_in l) follows)) same;
      units = way.units ∙ ap (λ (l : List (List ℕ)). ((g.before ++ units_in g.pieces) ++ units_in l) ++ without_ends (cut 0 follows).1) same;
      lie = subst (λ (n : ℕ). Lie (start + length w) n ws) (omega (arith, ap length e)) way.lie.1;
      next = subst (AreNext (length g.pieces)) same way.next;
      fuel = way.fuel;
      enough = way.enough;
      limits = way.limits ∙ ap (λ (o : Option Limit). first_limit o (limit_from way.fuel way.end follows)) (among_on start w ws fits);
    })
way_by text g start w ws follows (a ∷ b) e fits way =
    let p = a ∷ b in
    let h = with_piece g p in
    let more = has_more g p in
    let same : bare_pieces (w ∷ ws) ≡ p ∷ bare_pieces ws = bare_first w ws ∙ ap (λ (l : List ℕ). piece_of l ++ bare_pieces ws) e in
    let units : units_with g (w ∷ ws) ≡ units_with h ws =
    ap (λ (l : List (List ℕ)). (g.before ++ units_in g.pieces) ++ units_in l) same ∙ ap (λ (l : Units). (g.before ++ units_in g.pieces) ++ l) (units_first p (bare_pieces ws))
    ∙ sym (append_assoc (g.before ++ units_in g.pieces) (units_of p) (units_in (bare_pieces ws))) ∙ ap (λ (l : Units). l ++ units_in (bare_pieces ws)) (sym more.units) in
    let whole : with_pieces g (bare_pieces (w ∷ ws)) ≡ with_pieces h (bare_pieces ws) = ap (with_pieces g) same ∙ with_first g p (bare_pieces ws) in
    subst (λ (x : Gathering). OnWay text x (start + length w) ws follows) (sym (with_first g p [] ∙ with_none h))
    (record {
      end = way.end;
      sum = way.sum;
      made = way.made ∙ ap₂ (λ (x : Gathering) (l : Units). behind_stretches (stretch_ended (finished x)) (stretches_at way.end l follows)) whole units;
      units = way.units ∙ ap (λ (l : Units). l ++ without_ends (cut 0 follows).1) units;
      lie = subst (λ (n : ℕ). Lie (start + length w) n ws) (omega (arith, ap length e, more.end)) way.lie.1;
      next = next_behind (length g.pieces) p (bare_pieces ws) (subst (AreNext (length g.pieces)) same way.next) (length h.pieces);
      fuel = way.fuel;
      enough = way.enough;
      limits = way.limits ∙ ap (λ (o : Option Limit). first_limit o (limit_from way.fuel way.end follows)) (among_on start w ws fits);
    })

pub way_on : (text : List ℕ) (g : Gathering) (start : ℕ) (w : List ℕ) (ws : List (List ℕ)) (follows : List ℕ) → limit start 0 w ≡ None → OnWay text g start (w ∷ ws) follows → OnWay text (with_pieces g (piece_of (bare w))) (start + length w) ws follows
way_on text g start w ws follows fits way = way_by text g start w ws follows (bare w) refl fits way

-- ---- the next piece

-- the units of a text without its end codes are units
with_others : (u : List ℕ) (us ws : Units) → AreUnits (u ∷ us) → AreUnits ws → (us ≡ [] → ws ≡ []) → AreUnits (u ∷ ws)
with_others u us [] are own none = are_before (u ∷ []) us are
with_others u [] (w ∷ ws) are own none = let wrong : w ∷ ws ≡ [] = none refl in absurd cc
with_others u (v ∷ vs) (w ∷ ws) are own none =
    let a = code_bytes v are.3.1 in
    let b = code_bytes w own.1 in
    are_swapped (u ∷ []) (v ∷ vs) (w ∷ ws) 0x00 0x00 0x01 a.value b.value (a.rest ++ joined vs) (b.rest ++ joined ws) (ap (λ (l : List ℕ). l ++ joined vs) a.is) (ap (λ (l : List ℕ). l ++ joined ws) b.is) own are

no_others : (us : Units) → us ≡ [] → without_ends us ≡ []
unfolding without_ends
no_others [] e = refl
no_others (u ∷ us) e = absurd cc

some_units : (us : Units) → AreUnits us → AreUnits (without_ends us)
unfolding without_ends
some_units [] are = tt
some_units (u ∷ us) are = elim (cases_Bool (is_end (value_of u))) [
  | inl on ↦ rw on (some_units us are.3)
  | inr off ↦ rw off (with_others u us (without_ends us) are (some_units us are.3) (no_others us))
]

first_next : (n : ℕ) (w : List ℕ) (ws : List (List ℕ)) (b : List ℕ) → bare w ≡ b → 1 ≤ length b → AreNext n (bare_pieces (w ∷ ws)) → IsOneOfUnits b × (1 ≤ n → IsPieceOfUnits b)
first_next n w ws [] e le h = absurd (omega (arith, le))
first_next n w ws (a ∷ b) e le h =
    let same : bare_pieces (w ∷ ws) ≡ (a ∷ b) ∷ bare_pieces ws = bare_first w ws ∙ ap (λ (l : List ℕ). piece_of l ++ bare_pieces ws) e in
    let x = subst (AreNext n) same h in
    (x.0, x.1)

first_units : (g : Gathering) (w : List ℕ) (ws : List (List ℕ)) (b : List ℕ) → bare w ≡ b → 1 ≤ length b → units_with g (w ∷ ws) ≡ ((g.before ++ units_in g.pieces) ++ units_of b) ++ units_in (bare_pieces ws)
first_units g w ws [] e le = absurd (omega (arith, le))
first_units g w ws (a ∷ b) e le =
    let same : bare_pieces (w ∷ ws) ≡ (a ∷ b) ∷ bare_pieces ws = bare_first w ws ∙ ap (λ (l : List ℕ). piece_of l ++ bare_pieces ws) e in
    ap (λ (l : List (List ℕ)). (g.before ++ units_in g.pieces) ++ units_in l) same ∙ ap (λ (l : Units). (g.before ++ units_in g.pieces) ++ l) (units_first (a ∷ b) (bare_pieces ws))
    ∙ sym (append_assoc (g.before ++ units_in g.pieces) (units_of (a ∷ b)) (units_in (bare_pieces ws)))

pub way_next : (text : List ℕ) (g : Gathering) (start : ℕ) (w : List ℕ) (ws : List (List ℕ)) (follows : List ℕ) (q : Piece) → OnWay text g start (w ∷ ws) follows → IsBare q start w → IsOwn q → HasLastZeros q → 1 ≤ length (whole_of q) → IsNextPiece g q
way_next text g start w ws follows q way is own zeros some =
    let le : 1 ≤ length (bare w) = omega (arith, some, ap length is.whole) in
    let first = first_next (length g.pieces) w ws (bare w) refl le way.next in
    let all = first_units g w ws (bare w) refl le in
    let are = subst AreUnits (way.units ∙ ap (λ (l : Units). l ++ without_ends (cut 0 follows).1) all) (some_units (cut 0 text).1 (cut_cuts text).are_units) in
    let mine = (g.before ++ units_in g.pieces) ++ units_of (bare w) in
    let front = are_before mine (units_in (bare_pieces ws)) (are_before (mine ++ units_in (bare_pieces ws)) (without_ends (cut 0 follows).1) are) in
    record {
      one = subst IsOneOfUnits (sym is.whole) first.0;
      are = subst (λ (b : List ℕ). AreUnits ((g.before ++ units_in g.pieces) ++ units_of b)) (sym is.whole) front;
      no_end = own.no_end;
      begins = λ n. subst IsPieceOfUnits (sym is.whole) (first.1 n);
      place = is.at ∙ way.lie.0;
      zeros = zeros;
    }

-- ---- a stretch begins

pub left_begun : (c : Cutting) (text : List ℕ) → c.begun ≡ true → c.ended ≡ false → left_of c text ≡ grouped Headers (cut 0 (c.unread ++ text)).0 (cut 0 (c.unread ++ text)).1
unfolding open_pieces
left_begun c text begun still = ap₂ (λ (b e : Bool). if e then [] else open_pieces (phase_for b) [] (c.unread ++ text)) begun still

pub start_begun : (c : Cutting) (text : List ℕ) → c.begun ≡ true → start_of c text ≡ c.place
unfolding open_start
start_begun c text begun = ap (λ (b : Bool). if c.ended then c.place else open_start (phase_for b) c.place (c.unread ++ text)) begun ∙ either c.ended
  where
    either : (b : Bool) → (if b then c.place else c.place) ≡ c.place
    either true = refl
    either false = refl

pub follows_begun : (c : Cutting) (text : List ℕ) → c.begun ≡ true → c.ended ≡ false → follows_of c text ≡ following_in true (c.unread ++ text)
follows_begun c text begun still = ap₂ (λ (b e : Bool). if e then c.unread ++ text else following_in b (c.unread ++ text)) begun still

pub way_begun : (text : List ℕ) (t : Tally) (before : Units) (c : Cutting) (rest : List ℕ) → c.begun ≡ true → c.ended ≡ false
    → behind_stretches nothing_told (stretches text) ≡ behind_stretches t (stretches_at c.place before (c.unread ++ rest))
    → without_ends (cut 0 text).1 ≡ before ++ without_ends (cut 0 (c.unread ++ rest)).1 → c.place + length (c.unread ++ rest) ≡ length text
    → (fuel : ℕ) → length (c.unread ++ rest) ≤ fuel → mend_limit text ≡ limit_from fuel c.place (c.unread ++ rest)
    → OnWay text (before_stretch t (c.place + length (cut 0 (c.unread ++ rest)).0) before) c.place (left_of c rest) (follows_of c rest)
way_begun text t before c rest begun still made units total fuel enough limits =
    let now = c.unread ++ rest in
    let us = (cut 0 now).1 in
    let place = c.place + length (cut 0 now).0 in
    let g = before_stretch t place before in
    let raws = grouped Headers (cut 0 now).0 us in
    let left = left_begun c rest begun still in
    let follows = follows_begun c rest begun still in
    let pieces : bare_pieces (left_of c rest) ≡ grouped Headers [] (to_end us) = ap bare_pieces left ∙ text_bared now in
    let next = text_next now in
    let own : units_with g (left_of c rest) ≡ before ++ to_end us =
    ap (λ (l : List (List ℕ)). (before ++ units_in []) ++ units_in l) pieces
    ∙ ap₂ (λ (x y : Units). x ++ y) (ap (λ (l : Units). before ++ l) none_units ∙ append-nil before) next.1 in
    let end = c.place + length (joined (left_of c rest)) in
    let bytes = ap length (left_whole c rest begun) in
    let sum : end + length (following_in true now) ≡ c.place + length now = omega (arith, bytes, length-append (joined (left_of c rest)) (follows_of c rest), ap length follows) in
    let first = first_made t c.place before now end sum in
    let steps = steps_on fuel c.place now enough in
    let place_end : end_of c.place raws ≡ end = end_is c.place raws ∙ ap (λ (ps : List (List ℕ)). c.place + length (joined ps)) (sym left) in
    record {
      end = end;
      sum = omega (arith, sum, total, ap length follows);
      made = made ∙ first
          ∙ ap (λ (l : List (List ℕ)). behind_stretches (stretch_ended (finished (with_pieces g l))) (stretches_at end (before ++ to_end us) (following_in true now))) (sym pieces)
          ∙ ap₂ (λ (l : Units) (f : List ℕ). behind_stretches (stretch_ended (finished (with_pieces g (bare_pieces (left_of c rest))))) (stretches_at end l f)) (sym own) (sym follows);
      units = units ∙ ap (λ (l : Units). before ++ l) (units_follow now) ∙ sym (append_assoc before (to_end us) (without_ends (cut 0 (following_in true now)).1))
          ∙ ap₂ (λ (l : Units) (f : List ℕ). l ++ without_ends (cut 0 f).1) (sym own) (sym follows);
      lie = subst (λ (l : List (List ℕ)). Lie c.place (place + 0) l) (sym left) (subst (λ (n : ℕ). Lie c.place n raws) (omega arith) (text_lies now c.place));
      next = subst (AreNext 0) (sym pieces) next.0;
      fuel = steps.next;
      enough = omega (arith, steps.enough, ap length follows);
      limits = limits ∙ steps.limits
          ∙ ap (λ (n : ℕ). first_limit (limit_among c.place raws) (limit_from steps.next n (following_in true now))) place_end
          ∙ ap₂ (λ (ps : List (List ℕ)) (f : List ℕ). first_limit (limit_among c.place ps) (limit_from steps.next end f)) (sym left) (sym follows);
    }

-- ---- a stretch ends

-- what is made behind it, and the units of the input so far
pub record IsOverAt (text : List ℕ) (g : Gathering) (place : ℕ) (follows : List ℕ) : Type 0 where
  pub within : g.place + length (joined g.pieces) ≤ place
  pub made : behind_stretches nothing_told (stretches text) ≡ behind_stretches (stretch_ended (finished g)) (stretches_at place (g.before ++ units_in g.pieces) follows)
  pub units : without_ends (cut 0 text).1 ≡ (g.before ++ units_in g.pieces) ++ without_ends (cut 0 follows).1
  pub fuel : ℕ
  pub enough : length follows ≤ fuel
  pub limits : mend_limit text ≡ limit_from fuel place follows

pub way_over : (text : List ℕ) (g : Gathering) (place : ℕ) (follows : List ℕ) → OnWay text g place [] follows → place + length follows ≡ length text → IsOverAt text g place follows
way_over text g place follows way total =
    let end : way.end ≡ place = omega (arith, way.sum, total) in
    let own : units_with g [] ≡ g.before ++ units_in g.pieces = ap (λ (l : List (List ℕ)). (g.before ++ units_in g.pieces) ++ units_in l) no_pieces ∙ ap (λ (l : Units). (g.before ++ units_in g.pieces) ++ l) none_units ∙ append-nil (g.before ++ units_in g.pieces) in
    let same : with_pieces g (bare_pieces []) ≡ g = ap (with_pieces g) no_pieces ∙ with_none g in
    record {
      within = way.lie;
      made = way.made ∙ ap (λ (x : Gathering). behind_stretches (stretch_ended (finished x)) (stretches_at way.end (units_with g []) follows)) same
          ∙ ap₂ (λ (n : ℕ) (l : Units). behind_stretches (stretch_ended (finished g)) (stretches_at n l follows)) end own;
      units = way.units ∙ ap (λ (l : Units). l ++ without_ends (cut 0 follows).1) own;
      fuel = way.fuel;
      enough = way.enough;
      limits = way.limits ∙ ap (λ (o : Option Limit). first_limit o (limit_from way.fuel way.end follows)) (among_none place) ∙ ap (λ (n : ℕ). limit_from way.fuel n follows) end;
    }
