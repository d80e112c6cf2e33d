-- What of a stream's units stands in a cut, piece by piece.
use Rattle.std.proofs.Common.{◌≡◌, ℕ, zero, suc, ◌+◌, ◌-◌, ◌<◌, ◌≤◌, Bool, true, false, List, [], ◌∷◌, ◌++◌, length, inl, inr, refl, sym, ap, subst, ◌∙◌, append_assoc, arith}
use Rattle.std.specs.Prelude.{nat_eq, nat_le, not, ◌&&◌, ◌||◌, if◌then◌else◌}
use Rattle.std.proofs.lemmas.Bool.{cases_Bool, eqb-true, or_parts}
use Rattle.std.proofs.lemmas.List.{append-nil}
use Rattle.m2v_model.specs.Units.{Units, joined}
use Rattle.m2v_model.specs.Streams.{value_of}
use Rattle.m2v_model.specs.Pieces.{begins_piece}
use Rattle.m2v_model.proofs.CutLaws.{joined-append}
use Rattle.m2v_model.proofs.ShiftLaws.{BeginsPiece}
use Rattle.m2v_law_group.specs.Groups.{is_sequence, is_group, has_picture, has_sequence, group_headers, from_last_sequence, before_group, from_group, up_to_piece, up_to_group, first_groups, behind_cut, cut_units}
use Rattle.m2v_cut.specs.Progress.{are_some}
use Rattle.m2v_cut.proofs.Shapes.{Shape, IsPictured, BeginsSequence}
use Rattle.m2v_cut.proofs.Fulls.{IsFull, Full, Fulls, picture-append, sequence-append, headers-append, none_begin, up_full, up_fulls, up_headers, last_later, last_behind_all, fulls_picture}
use Rattle.m2v_cut.proofs.Places.{passes, holds, none_holds, in_piece}
use Rattle.m2v_cut.proofs.Lefts.{last_suffix}

-- ---- where a group stands

-- a group's header in a piece, other pieces before it and units behind it
pub record Stands (from n : ℕ) (us a vs z : Units) : Type 0 where
  pub before : before_group from us ≡ a ++ before_group n vs
  pub behind : from_group from us ≡ from_group n vs ++ z

pub stands : (from : ℕ) (us a vs z : Units) → us ≡ a ++ (vs ++ z) → group_headers a ≤ from → from - group_headers a < group_headers vs → Stands from (from - group_headers a) us a vs z
stands from us a vs z is few here =
    let p = passes from a (vs ++ z) few in
    let h = holds (from - group_headers a) vs z here in
    record {
      before = ap (before_group from) is ∙ p.before ∙ ap (λ (l : Units). a ++ l) h.before;
      behind = ap (from_group from) is ∙ p.behind ∙ h.behind;
    }

-- a piece with a picture from a group's header on
pub full_behind : (n : ℕ) (vs : Units) → IsFull vs → n < group_headers vs → IsFull (from_group n vs)
full_behind n vs f here =
    let i = in_piece n vs f.shape here in
    record {
      shape = record { heads = i.heads; tail = f.shape.tail; is = i.behind; none = i.no_picture; pictured = f.shape.pictured };
      some = f.some;
    }

-- ---- which groups are taken

-- fewer follow
pub picked_end : (count : ℕ) (us : Units) → group_headers us ≤ count → first_groups count us ≡ us
picked_end count us few =
    let n = none_holds count us few in
    (λ i. up_to_group (n.1 i) (n.0 i))

begins_before : (n : ℕ) (vs : Units) → BeginsPiece vs → BeginsPiece (before_group n vs)
unfolding before_group
begins_before n [] b = tt
begins_before zero (v ∷ vs) b = elim (cases_Bool (is_group v)) [ inl on ↦ rw on tt | inr off ↦ rw off b ]
begins_before (suc n) (v ∷ vs) b = b

up_some : (us xs : Units) (h : List ℕ) (r d : Units) → xs ≡ (h ∷ r) ++ d → up_to_group us xs ≡ up_to_piece us
up_some us xs h r d e = ap (up_to_group us) e

-- the next one's header stands in a piece
pub picked_stop : (count : ℕ) (ps : List (List ℕ)) (hs c vs d : Units) → IsFull hs → Fulls ps c → (s : Shape vs) → BeginsPiece vs → group_headers (hs ++ c) ≤ count → count < group_headers (hs ++ c) + group_headers vs
    → first_groups count (hs ++ (c ++ (vs ++ d))) ≡ hs ++ c
picked_stop count ps hs c vs d f fs s b few more =
    let front : Units = hs ++ c in
    let m = count - group_headers front in
    let all : hs ++ (c ++ (vs ++ d)) ≡ front ++ (vs ++ d) = sym (append_assoc hs c (vs ++ d)) in
    let p = passes count front (vs ++ d) few in
    let h = holds m vs d (omega arith) in
    let i = in_piece m vs s (omega arith) in
    let before : before_group count (front ++ (vs ++ d)) ≡ hs ++ (c ++ before_group m vs) = p.before ∙ ap (λ (l : Units). front ++ l) h.before ∙ append_assoc hs c (before_group m vs) in
    let behind : from_group count (front ++ (vs ++ d)) ≡ (h.head ∷ h.rest) ++ d = p.behind ∙ h.behind ∙ ap (λ (l : Units). l ++ d) h.is in
    ap (first_groups count) all
    ∙ up_some (before_group count (front ++ (vs ++ d))) (from_group count (front ++ (vs ++ d))) h.head h.rest d behind
    ∙ ap up_to_piece before
    ∙ up_full hs (c ++ before_group m vs) f
    ∙ ap (λ (l : Units). hs ++ l) (up_fulls ps c (before_group m vs) fs ∙ ap (λ (l : Units). c ++ l) (up_headers (before_group m vs) i.none (begins_before m vs b)) ∙ append-nil c)

-- ---- the units of a cut

pub cut_taken : (from count n : ℕ) (us a vs z taken : Units) → Stands from n us a vs z → has_sequence (before_group n vs) ≡ true → first_groups count (from_group n vs ++ z) ≡ taken
    → cut_units from count us ≡ from_last_sequence (before_group n vs) ++ behind_cut (a ++ before_group n vs) taken
unfolding cut_units
cut_taken from count n us a vs z taken s on is =
    (λ i. from_last_sequence (s.before i) ++ behind_cut (s.before i) (first_groups count (s.behind i)))
    ∙ (λ i. last_behind_all a (before_group n vs) on i ++ behind_cut (a ++ before_group n vs) (is i))

-- ---- the last sequence header

or_true : (b : Bool) → (b || true) ≡ true
or_true true = refl
or_true false = refl

-- no picture stands before a group's header in its piece
pub alone_before : (n : ℕ) (a vs : Units) (s : Shape vs) → n < group_headers vs → has_sequence (before_group n vs) ≡ true → has_picture (from_last_sequence (a ++ before_group n vs)) ≡ false
alone_before n a vs s here on =
    let i = in_piece n vs s here in
    let l = last_suffix (before_group n vs) in
    let parts = or_parts _ _ (sym (picture-append l.front (from_last_sequence (before_group n vs))) ∙ ap has_picture (sym l.is) ∙ i.none) in
    ap has_picture (last_behind_all a (before_group n vs) on) ∙ parts.1

no_more : (a b : Bool) → (a || b) ≡ true → b ≡ false → a ≡ true
no_more true b e off = refl
no_more false b e off = let t : b ≡ true = e in absurd cc

tail_picture : (t : Units) → IsPictured t → (t ≡ [] → ⊥) → has_picture t ≡ true
unfolding has_picture
tail_picture [] p some = absurd (some refl)
tail_picture (t ∷ ts) p some = rw p.0 refl

picture_sequence : (t : List ℕ) (ts : Units) → nat_eq (value_of t) 0x00 ≡ true → has_sequence ts ≡ false → has_sequence (t ∷ ts) ≡ false
unfolding has_sequence
picture_sequence t ts on off = let e = eqb-true (value_of t) 0x00 on in rw (e, off) refl

tail_sequence : (t : Units) → IsPictured t → has_sequence t ≡ false
unfolding has_sequence
tail_sequence [] p = refl
tail_sequence (t ∷ ts) p = picture_sequence t ts p.0 (none_begin ts p.1).1.0

-- behind pieces that have pictures the last sequence header stands before a picture
full_last : (us vs : Units) → IsFull vs → has_sequence (us ++ vs) ≡ true → has_picture (from_last_sequence (us ++ vs)) ≡ true
full_last us vs f on =
    let s = f.shape in
    let all : us ++ vs ≡ (us ++ s.heads) ++ s.tail = ap (λ (l : Units). us ++ l) s.is ∙ sym (append_assoc us s.heads s.tail) in
    let off : has_sequence s.tail ≡ false = tail_sequence s.tail s.pictured in
    let front : has_sequence (us ++ s.heads) ≡ true = no_more _ _ (sym (sequence-append (us ++ s.heads) s.tail) ∙ ap has_sequence (sym all) ∙ on) off in
    ap (λ (l : Units). has_picture (from_last_sequence l)) all
    ∙ ap has_picture (last_later (us ++ s.heads) s.tail off front)
    ∙ picture-append (from_last_sequence (us ++ s.heads)) s.tail
    ∙ ap (λ (b : Bool). has_picture (from_last_sequence (us ++ s.heads)) || b) (tail_picture s.tail s.pictured f.some)
    ∙ or_true (has_picture (from_last_sequence (us ++ s.heads)))

pub fulls_last : (p : List ℕ) (ps : List (List ℕ)) (us : Units) → Fulls (p ∷ ps) us → has_sequence us ≡ true → has_picture (from_last_sequence us) ≡ true
fulls_last p ps us f on = go [] p ps us f on
  where
    go : (before : Units) (q : List ℕ) (qs : List (List ℕ)) (xs : Units) → Fulls (q ∷ qs) xs → has_sequence (before ++ xs) ≡ true → has_picture (from_last_sequence (before ++ xs)) ≡ true
    go before q [] xs g some =
        let one : Full q xs g.0 = g.1 in
        let none : g.0 ≡ [] = g.2 in
        let e : xs ≡ one.vs = one.is ∙ ap (λ (l : Units). one.vs ++ l) none ∙ append-nil one.vs in
        ap (λ (l : Units). has_picture (from_last_sequence (before ++ l))) e ∙ full_last before one.vs one.full (ap (λ (l : Units). has_sequence (before ++ l)) (sym e) ∙ some)
    go before q (r ∷ qs) xs g some =
        let one : Full q xs g.0 = g.1 in
        let e : before ++ xs ≡ (before ++ one.vs) ++ g.0 = ap (λ (l : Units). before ++ l) one.is ∙ sym (append_assoc before one.vs g.0) in
        ap (λ (l : Units). has_picture (from_last_sequence l)) e ∙ go (before ++ one.vs) r qs g.0 g.2 (ap has_sequence (sym e) ∙ some)

-- without a sequence header in its piece a group behind pictures doesn't stand alone
pub not_alone : (p : List ℕ) (ps : List (List ℕ)) (a bs : Units) → Fulls (p ∷ ps) a → has_sequence a ≡ true → has_sequence bs ≡ false → has_picture (from_last_sequence (a ++ bs)) ≡ true
not_alone p ps a bs f on off =
    ap has_picture (last_later a bs off on) ∙ picture-append (from_last_sequence a) bs ∙ ap (λ (b : Bool). b || has_picture bs) (fulls_last p ps a f on)
