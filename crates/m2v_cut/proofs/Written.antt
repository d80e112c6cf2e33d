-- The bytes of a cut, by its pieces.
use Rattle.std.proofs.Common.{◌≡◌, ◌⊎◌, ℕ, zero, suc, ◌+◌, ◌-◌, ◌*◌, ◌<◌, ◌≤◌, Bool, true, false, List, [], ◌∷◌, ◌++◌, length, take, drop, Option, Some, None, inl, inr, refl, sym, ap, subst, ◌∙◌, append_assoc, arith}
use Rattle.std.specs.Prelude.{nat_eq, nat_le, not, is_some, slice_index, ◌&&◌, ◌||◌, if◌then◌else◌}
use Rattle.std.proofs.lemmas.Bool.{cases_Bool, eqb-true, leb-true}
use Rattle.std.proofs.Math.Bool.{or-false}
use Rattle.std.proofs.lemmas.List.{append-nil, length-append, take-append-le, drop-append-le, get_or_append_left, get_or-append-add}
use Rattle.std.proofs.Math.Seq.{drop-append_seam, drop-append-add, take-append-add}
use Rattle.m2v_model.specs.Units.{Units, cut, unit_bits, joined}
use Rattle.m2v_model.proofs.CutLaws.{joined-append, joined_bits}
use Rattle.m2v_model.proofs.ShiftLaws.{BeginsPiece, unit_bits-append}
use Rattle.m2v_law_group.specs.Groups.{is_group, has_picture, has_sequence, group_headers, from_last_sequence, before_group, from_group, first_groups, broken_header, with_broken_link, behind_cut, cut_units}
use Rattle.m2v_decode.specs.m2v_dec_piece.declared.answer.Piece.{Piece}
use Rattle.m2v_cut.specs.declared.start.Start.{Start}
use Rattle.m2v_cut.specs.Answers.{first_picture, has_intra, groups_of}
use Rattle.m2v_cut.specs.Progress.{part, head_of, bytes_of, all_bytes, all_groups, are_some}
use Rattle.m2v_cut.specs.Starts.{IsSequencePlace, IsStart, is_long, is_intra_frame, cut_place}
use Rattle.m2v_cut.proofs.Shapes.{Shape, IsPictured, AreEnds, Split, Splits}
use Rattle.m2v_cut.proofs.Fulls.{IsFull, Full, Fulls, before_split, split_bytes, split_groups, fulls_groups, fulls_bytes, fulls_picture, picture-append, headers-append}
use Rattle.m2v_cut.proofs.Places.{first_behind, first_none, holds, tail_headers, headers_one}
use Rattle.m2v_cut.proofs.Intras.{ends_none, some_or_none}
use Rattle.m2v_cut.proofs.Lefts.{last_suffix}
use Rattle.m2v_cut.proofs.Takings.{Stands, full_behind, picked_end, picked_stop, cut_taken}
use Rattle.m2v_cut.proofs.Firsts.{some_place, and_true}
use Rattle.m2v_cut.proofs.Decided.{behind_header, Opened, opened, At, stands_at}

-- ---- bytes of the first piece

-- bytes before, those from the last sequence header on, the group's header and the rest
pub head_is : (xs ss h rs : List ℕ) (behind : Bool) → 8 ≤ length h → head_of (xs ++ (ss ++ (h ++ rs))) (length xs) (length xs + length ss) behind ≡ ss ++ ((if behind then broken_header h else h) ++ rs)
head_is xs ss h rs false long = drop-append_seam xs (ss ++ (h ++ rs))
head_is xs ss h rs true long =
    let n : (length xs + length ss) + 7 ≡ length xs + (length ss + 7) = omega arith in
    let m : (length xs + length ss) + 8 ≡ length xs + (length ss + 8) = omega arith in
    let k : ((length xs + length ss) + 7) - length xs ≡ length ss + 7 = omega arith in
    let front : part (length xs) ((length xs + length ss) + 7) (xs ++ (ss ++ (h ++ rs))) ≡ ss ++ take 7 h =
    (λ i. take (k i) (drop-append_seam xs (ss ++ (h ++ rs)) i))
    ∙ take-append-add ss (h ++ rs) 7
    ∙ ap (λ (l : List ℕ). ss ++ l) (take-append-le 7 h rs (omega (arith, long))) in
    let byte : slice_index (xs ++ (ss ++ (h ++ rs))) ((length xs + length ss) + 7) ≡ slice_index h 7 =
    ap (slice_index (xs ++ (ss ++ (h ++ rs)))) n
    ∙ get_or-append-add xs (ss ++ (h ++ rs)) (length ss + 7) 0
    ∙ get_or-append-add ss (h ++ rs) 7 0
    ∙ get_or_append_left h rs 0 7 (omega (arith, long)) in
    let back : drop ((length xs + length ss) + 8) (xs ++ (ss ++ (h ++ rs))) ≡ drop 8 h ++ rs =
    ap (λ (i : ℕ). drop i (xs ++ (ss ++ (h ++ rs)))) m
    ∙ drop-append-add xs (ss ++ (h ++ rs)) (length ss + 8)
    ∙ drop-append-add ss (h ++ rs) 8
    ∙ drop-append-le 8 h rs long in
    (λ i. front i ++ with_broken_link (byte i) ∷ back i)
    ∙ append_assoc ss (take 7 h) (with_broken_link (slice_index h 7) ∷ (drop 8 h ++ rs))
    ∙ ap (λ (l : List ℕ). ss ++ l) (sym (append_assoc (take 7 h) (with_broken_link (slice_index h 7) ∷ drop 8 h) rs))

-- ---- pieces up to the last one

pub splits_bytes : (ps : List (List ℕ)) (us : Units) → Splits ps us → all_bytes ps ≡ joined us
splits_bytes [] us s = ap joined (sym s)
splits_bytes (p ∷ ps) us s =
    let one : Split p ps us s.0 = s.1 in
    (λ i. split_bytes p ps us s.0 one i ++ splits_bytes ps s.0 s.2 i) ∙ sym (joined-append one.vs s.0) ∙ ap joined (sym one.is)

pub splits_groups : (ps : List (List ℕ)) (us : Units) → Splits ps us → group_headers us ≡ all_groups ps
unfolding group_headers
splits_groups [] us s = ap group_headers s
splits_groups (p ∷ ps) us s =
    let one : Split p ps us s.0 = s.1 in
    omega (arith, ap group_headers one.is, headers-append one.vs s.0, split_groups p ps us s.0 one, splits_groups ps s.0 s.2)

-- ---- a group that can be cut out

-- its piece has its first picture, and no other group header stands before that
pub record Ready (n : ℕ) (vs ends : Units) (s : Shape vs) : Type 0 where
  pub single : group_headers (from_group n vs) ≡ 1
  pub some : s.tail ≡ [] → ⊥
  pub none : ends ≡ []

pub picture_there : (heads tail ends : Units) → has_picture heads ≡ false → IsPictured tail → AreEnds ends → (first_picture (heads ++ (tail ++ ends)) ≡ None → ⊥) → (group_headers heads ≡ 0) × (tail ≡ [] → ⊥)
picture_there heads tail ends none pictured at_end there = elim (cases_Bool (nat_eq (group_headers heads) 0)) [
  | inl few ↦
      let z = eqb-true (group_headers heads) 0 few in (
        z,
        λ e. there (first_behind heads (tail ++ ends) none z ∙ ap (λ (l : Units). first_picture (l ++ ends)) e ∙ ends_none ends at_end),
      )
  | inr some ↦
      let less : 0 < group_headers heads = some_or_none (group_headers heads) (λ z. let t : nat_eq (group_headers heads) 0 ≡ true = rw z refl in absurd cc) in
      absurd (there (first_none heads (tail ++ ends) none less))
]

pub ready : (from n : ℕ) (us : Units) (first : List (List ℕ)) (w : List ℕ) (later : List (List ℕ)) → (a : At from n us first w later) → (first_picture (drop 1 (from_group n (cut 0 w).1)) ≡ None → ⊥) → Ready n (a.split).vs (a.split).ends (a.split).shape
unfolding group_headers
ready from n us first w later a there =
    let one : Split w later a.back a.rest = a.split in
    let s : Shape one.vs = one.shape in
    let o : Opened n one.vs s = opened n one.vs s a.here in
    let after = behind_header from n us first w later a in
    let p = picture_there o.heads s.tail one.ends o.none s.pictured one.at_end (λ e. there (ap first_picture after ∙ e)) in
    record {
      single = omega (arith, ap group_headers o.is, headers_one o.head (o.heads ++ s.tail) o.group, headers-append o.heads s.tail, tail_headers s.tail s.pictured, p.0);
      some = p.1;
      none = one.apart p.1;
    }

-- ---- which units are taken

pub record Picks (count : ℕ) (hs z : Units) (bytes : List ℕ) : Type 0 where
  pub taken : Units
  pub is : first_groups count (hs ++ z) ≡ hs ++ taken
  pub joins : joined taken ≡ bytes

pub picks_all : (count : ℕ) (hs z : Units) (mids : List (List ℕ)) → Splits mids z → group_headers hs ≡ 1 → 1 + all_groups mids ≤ count → Picks count hs z (all_bytes mids)
picks_all count hs z mids s single few = record {
  taken = z;
  is = picked_end count (hs ++ z) (omega (arith, headers-append hs z, single, splits_groups mids z s, few));
  joins = sym (splits_bytes mids z s);
}

pub picks_some : (count : ℕ) (hs z : Units) (mids : List (List ℕ)) (q : List ℕ) (qs : List (List ℕ)) → IsFull hs → Splits (mids ++ q ∷ qs) z → group_headers hs ≡ 1 → 1 + all_groups mids ≤ count → count < (1 + all_groups mids) + groups_of q → Picks count hs z (all_bytes mids)
picks_some count hs z mids q qs full s single few more =
    let b = before_split mids q qs z s in
    let one : Split q qs b.behind (b.splits).0 = (b.splits).1 in
    let all : z ≡ b.front ++ (one.vs ++ (b.splits).0) = b.is ∙ ap (λ (l : Units). b.front ++ l) one.is in
    let g = headers-append hs b.front in
    let f = fulls_groups mids b.front b.fulls in
    let n = split_groups q qs b.behind (b.splits).0 one in
    record {
      taken = b.front;
      is = ap (λ (l : Units). first_groups count (hs ++ l)) all
          ∙ picked_stop count mids hs b.front one.vs (b.splits).0 full b.fulls one.shape one.begins (omega (arith, g, f, single, few)) (omega (arith, g, f, n, single, more));
      joins = sym (fulls_bytes mids b.front b.fulls);
    }

-- ---- the bytes of a cut

pub chosen_byte : (before : Units) (behind : Bool) (u : List ℕ) (us : Units) → has_picture before ≡ behind → behind_cut before (u ∷ us) ≡ (if behind then broken_header u else u) ∷ us
chosen_byte before behind u us e = ap (λ (b : Bool). (if b then broken_header u else u) ∷ us) e

pub long_head : (us ends : Units) (u : List ℕ) (rest : Units) → us ≡ u ∷ rest → is_long (us ++ ends) ≡ true → 8 ≤ length u
long_head us ends u rest e on =
    let t : nat_le 8 (length u) ≡ true = sym (ap (λ (l : Units). is_long (l ++ ends)) e) ∙ on in
    leb-true 8 (length u) t

-- where the parts of a piece stand
pub places : (xs ls hs rest : Units) (all bs fs : Units) (sequence header : ℕ) → all ≡ xs ++ (ls ++ fs) → bs ≡ ls → 8 * sequence + unit_bits (bs ++ fs) ≡ unit_bits all → 8 * header + unit_bits fs ≡ unit_bits all
    → (sequence ≡ length (joined xs)) × (header ≡ length (joined xs) + length (joined ls))
places xs ls hs rest all bs fs sequence header is same s h =
    let a : unit_bits all ≡ unit_bits xs + (unit_bits ls + unit_bits fs) = ap unit_bits is ∙ unit_bits-append xs (ls ++ fs) ∙ ap (λ (k : ℕ). unit_bits xs + k) (unit_bits-append ls fs) in
    let b : unit_bits (bs ++ fs) ≡ unit_bits ls + unit_bits fs = ap (λ (l : Units). unit_bits (l ++ fs)) same ∙ unit_bits-append ls fs in (
      omega (arith, a, b, s, joined_bits xs),
      omega (arith, a, h, joined_bits xs, joined_bits ls),
    )

pub written : (from n count : ℕ) (us : Units) (first : List (List ℕ)) (w : List ℕ) (later : List (List ℕ)) (start : Start) (second : Option Piece) (sequence : ℕ) (bytes : List ℕ) → (a : At from n us first w later) → Ready n (a.split).vs (a.split).ends (a.split).shape → IsStart (cut 0 w).1 n start
    → cut_place start second ≡ Some sequence → Picks count (from_group n (a.split).vs) a.rest bytes → joined (cut_units from count us) ≡ head_of w sequence start.header (are_some first) ++ bytes
written from n count us first w later start second sequence bytes a r is can picks =
    let one : Split w later a.back a.rest = a.split in
    let s : Shape one.vs = one.shape in
    let o : Opened n one.vs s = opened n one.vs s a.here in
    let st : Stands from n us a.front one.vs a.rest = stands_at from n us first w later a in
    let h = holds n one.vs one.ends a.here in
    let bs : Units = before_group n one.vs in
    let ls : Units = from_last_sequence bs in
    let hr : Units = o.heads ++ s.tail in
    let l = last_suffix bs in
    let wu : (cut 0 w).1 ≡ one.vs ++ one.ends = ap (λ (x : List ℕ × Units). x.1) one.units in
    let behind : from_group n (cut 0 w).1 ≡ from_group n one.vs ++ one.ends = ap (from_group n) wu ∙ h.behind in
    let before : before_group n (cut 0 w).1 ≡ bs = ap (before_group n) wu ∙ h.before in
    let p = some_place (start.long && is_intra_frame start.first second) start.sequence sequence can in
    let long : is_long (from_group n one.vs ++ one.ends) ≡ true = ap is_long (sym behind) ∙ sym is.long ∙ and_true start.long (is_intra_frame start.first second) p.0 in
    let eight : 8 ≤ length o.head = long_head (from_group n one.vs) one.ends o.head hr o.is long in
    let at : IsSequencePlace (Some sequence) (cut 0 w).1 (before_group n (cut 0 w).1) (from_group n (cut 0 w).1) = subst (λ (x : Option ℕ). IsSequencePlace x (cut 0 w).1 (before_group n (cut 0 w).1) (from_group n (cut 0 w).1)) p.1 is.sequence in
    let on : has_sequence bs ≡ true = ap has_sequence (sym before) ∙ at.0 in
    let empty : joined one.ends ≡ [] = ap joined r.none in
    let parts : one.vs ≡ l.front ++ (ls ++ from_group n one.vs) = o.whole ∙ ap (λ (x : Units). x ++ from_group n one.vs) l.is ∙ append_assoc l.front ls (from_group n one.vs) in
    let all : (cut 0 w).1 ≡ l.front ++ (ls ++ from_group n (cut 0 w).1) =
    wu ∙ ap (λ (x : Units). x ++ one.ends) parts ∙ append_assoc l.front (ls ++ from_group n one.vs) one.ends
    ∙ ap (λ (x : Units). l.front ++ x) (append_assoc ls (from_group n one.vs) one.ends ∙ ap (λ (x : Units). ls ++ x) (sym behind)) in
    let q = places l.front ls [] [] (cut 0 w).1 (from_last_sequence (before_group n (cut 0 w).1)) (from_group n (cut 0 w).1) sequence start.header all (ap from_last_sequence before) at.1 is.header in
    let whole : w ≡ joined l.front ++ (joined ls ++ (o.head ++ joined hr)) =
    one.whole ∙ ap (λ (x : Units). joined (one.vs ++ x)) r.none ∙ ap joined (append-nil one.vs ∙ parts) ∙ joined-append l.front (ls ++ from_group n one.vs)
    ∙ ap (λ (x : List ℕ). joined l.front ++ x) (joined-append ls (from_group n one.vs) ∙ ap (λ (x : Units). joined ls ++ joined x) o.is) in
    let flag : has_picture (a.front ++ bs) ≡ are_some first = picture-append a.front bs ∙ (λ i. fulls_picture first a.front a.fulls i || o.before i) ∙ or-false (are_some first) in
    let chosen : behind_cut (a.front ++ bs) (from_group n one.vs ++ picks.taken) ≡ (if are_some first then broken_header o.head else o.head) ∷ (hr ++ picks.taken) =
    ap (λ (x : Units). behind_cut (a.front ++ bs) (x ++ picks.taken)) o.is ∙ chosen_byte (a.front ++ bs) (are_some first) o.head (hr ++ picks.taken) flag in
    let header : List ℕ = if are_some first then broken_header o.head else o.head in
    ap joined (cut_taken from count n us a.front one.vs a.rest (from_group n one.vs ++ picks.taken) st on picks.is ∙ ap (λ (x : Units). ls ++ x) chosen)
    ∙ joined-append ls (header ∷ (hr ++ picks.taken))
    ∙ ap (λ (x : List ℕ). joined ls ++ (header ++ x)) (joined-append hr picks.taken ∙ ap (λ (x : List ℕ). joined hr ++ x) picks.joins)
    ∙ ap (λ (x : List ℕ). joined ls ++ x) (sym (append_assoc header (joined hr) bytes))
    ∙ sym (append_assoc (joined ls) (header ++ joined hr) bytes)
    ∙ ap (λ (x : List ℕ). x ++ bytes) (sym (head_is (joined l.front) (joined ls) o.head (joined hr) (are_some first) eight))
    ∙ (λ i. head_of (sym whole i) (sym q.0 i) (sym q.1 i) (are_some first) ++ bytes)
