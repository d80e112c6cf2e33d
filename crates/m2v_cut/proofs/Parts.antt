-- Where a cut ends before its end code.
use Rattle.std.proofs.Common.{◌≡◌, ◌⊎◌, ℕ, ◌+◌, ◌-◌, ◌<◌, ◌≤◌, Bool, true, false, List, [], ◌∷◌, ◌++◌, length, Option, Some, None, inl, inr, refl, sym, ap, subst, ◌∙◌, append_assoc, arith}
use Rattle.std.proofs.lemmas.Bool.{cases_lt}
use Rattle.m2v_port.specs.Ends.{Change, change}
use Rattle.m2v_port.specs.Port.{Grows, GrowsByPrefix}
use Rattle.m2v_port.proofs.Runs.{moves_on, prefix_of_more, prefix_on, rose_since, rose_still}
use Rattle.m2v_model.specs.Units.{cut}
use Rattle.m2v_decode.specs.m2v_dec_piece.declared.answer.Piece.{Piece}
use Rattle.m2v_decode.specs.m2v_dec_piece.Cutting.{Cutting, left_of}
use Rattle.m2v_decode.specs.Decoding.{whole_of}
use Rattle.m2v_decode.specs.Answers.{OfText, OfTaken}
use Rattle.m2v_decode.proofs.Going.{moved_some}
use Rattle.m2v_cut.specs.declared.answer.CutError.{CutError}
use Rattle.m2v_cut.specs.declared.answer.CutError.TheVariants as errors
use Rattle.m2v_cut.specs.declared.find.Found.{Found}
use Rattle.m2v_cut.specs.declared.start.Start.{Start}
use Rattle.m2v_cut.specs.declared.look.FirstPicture.{FirstPicture}
use Rattle.m2v_cut.specs.Answers.{groups_of, IsPart, Fails}
use Rattle.m2v_cut.specs.Progress.{IsFound, Onward, ReadOn, Cuts, head_of, all_bytes, all_groups}
use Rattle.m2v_cut.specs.Starts.{IsStart, is_field_number, cut_place, piece_list, SecondIs, Second}
use Rattle.m2v_cut.specs.Behind.{BehindCut}
use Rattle.m2v_cut.proofs.Joins.{read_on}
use Rattle.m2v_cut.proofs.Decided.{LooksAt}
use Rattle.m2v_cut.proofs.Outcomes.{Taken, Here, here_of, here_read, part_here}

-- ---- the second piece

-- all that stands behind the group's piece was looked at
pub looks_all : (second : Option Piece) (f : FirstPicture) (others : List ℕ → List (List ℕ)) (new : Option (List ℕ)) (rest : List ℕ) → SecondIs second f others new → new ≡ Some rest → LooksAt second f (piece_list second ++ others rest)
looks_all None f others new rest (inl off) e = inl off
looks_all None f others new rest (inr over) e = inr (over rest e)
looks_all (Some p) f others new rest is e = (is.0, (others rest, refl))

none_first : (xs ys : List (List ℕ)) → xs ++ ys ≡ [] → xs ≡ []
none_first [] ys e = refl
none_first (x ∷ xs) ys e = absurd cc

-- the pieces that were read
pub looks_read : (second : Option Piece) (f : FirstPicture) (read later : List (List ℕ)) → LooksAt second f (piece_list second ++ (read ++ later)) → LooksAt second f (piece_list second ++ read)
looks_read None f read later (inl off) = inl off
looks_read None f read later (inr e) = inr (none_first read later e)
looks_read (Some p) f read later l = (l.0, (read, refl))

pub looks_second : (second : Option Piece) (f : FirstPicture) (others : List ℕ → List (List ℕ)) (new : Option (List ℕ)) → SecondIs second f others new → LooksAt second f (piece_list second)
looks_second None f others new is = inr refl
looks_second (Some p) f others new is = (is.0, ([], refl))

-- what of it belongs to the cut
pub record Kept (count : ℕ) (second : Option Piece) : Type 0 where
  pub mids : List (List ℕ)
  pub taken : Taken count mids (piece_list second)

pub kept : (count : ℕ) (second : Option Piece) → 1 ≤ count → Kept count second
kept count None one = record { mids = []; taken = inl (refl, omega (arith, one)) }
kept count (Some p) one = elim (cases_lt count (1 + groups_of (whole_of p))) [
  | inl more ↦ record { mids = []; taken = inr (whole_of p, [], refl, omega (arith, one), omega (arith, more)) }
  | inr few ↦ record { mids = whole_of p ∷ []; taken = inl (refl, omega (arith, few)) }
]

module _ {S K : Type 0} (left : S → Option (List ℕ)) (input_faults : S → ℕ) (held : K → Option (List ℕ)) (output_faults : K → ℕ) where
  abbrev input : S → S → Change
  input = change left input_faults

  abbrev output : K → K → Change
  output = change held output_faults

  -- ---- the first piece wasn't written whole

  head_part : (i0 i1 i2 : S) (o0 o1 : K) (from count : ℕ) (c c' : Cutting) (f : Found) (start : Start) (second : Option Piece) (sequence : ℕ) → 1 ≤ count → IsFound from (input i0 i1) c f → Second start.first (left i1) (left i2) c c' second → IsStart (cut 0 (whole_of f.piece)).1 f.number start
      → cut_place start second ≡ Some sequence → GrowsByPrefix (held o0) (head_of (whole_of f.piece) sequence start.header f.behind) (held o1) → OfTaken (input i0 i2) (λ bytes text. IsPart bytes text from count (output o0 o1))
  head_part i0 i1 i2 o0 o1 from count c c' f start second sequence one found s is can grown =
      let k : Kept count second = kept count second one in
      let bytes : List ℕ = (found.progress).bytes ++ (s.onward).bytes in
      record {
        bytes = bytes;
        moved = moves_on (found.progress).moved (s.onward).moved;
        told = λ rest e.
            part_here bytes (bytes ++ rest) from count (output o0 o1) f (piece_list second) (left_of c' rest) k.mids start second sequence (head_of (whole_of f.piece) sequence start.header f.behind ++ all_bytes k.mids)
            (here_of from (input i0 i1) (left i2) c c' f (piece_list second) found s.onward rest e) is can (looks_second second start.first (left_of c') (left i2) s.is) k.taken refl (prefix_of_more grown (all_bytes k.mids));
      }

  pub head_failed : (i0 i1 i2 : S) (o0 o1 : K) (from count : ℕ) (c c' : Cutting) (f : Found) (start : Start) (second : Option Piece) (sequence : ℕ) (e : CutError) → 1 ≤ count → IsFound from (input i0 i1) c f → Second start.first (left i1) (left i2) c c' second → IsStart (cut 0 (whole_of f.piece)).1 f.number start
      → cut_place start second ≡ Some sequence → Cuts (head_of (whole_of f.piece) sequence start.header f.behind) (output o0 o1) e → Fails from count (input i0 i2) (output o0 o1) e
  head_failed i0 i1 i2 o0 o1 from count c c' f start second sequence errors.Write one found s is can cut = (cut.0, head_part i0 i1 i2 o0 o1 from count c c' f start second sequence one found s is can cut.1)
  head_failed i0 i1 i2 o0 o1 from count c c' f start second sequence errors.Memory one found s is can cut = head_part i0 i1 i2 o0 o1 from count c c' f start second sequence one found s is can cut
  head_failed i0 i1 i2 o0 o1 from count c c' f start second sequence _ one found s is can cut = absurd cut

  -- ---- the pieces behind it weren't written whole

  pub behind_part : (i0 i1 i2 i3 : S) (o0 o1 o2 : K) (from count : ℕ) (c c' : Cutting) (f : Found) (start : Start) (second : Option Piece) (sequence : ℕ) → IsFound from (input i0 i1) c f → Second start.first (left i1) (left i2) c c' second → IsStart (cut 0 (whole_of f.piece)).1 f.number start
      → cut_place start second ≡ Some sequence → Grows (held o0) (head_of (whole_of f.piece) sequence start.header f.behind) (held o1) → BehindCut (piece_list second) count 1 (input i2 i3) (output o1 o2) c' → OfTaken (input i0 i3) (λ bytes text. IsPart bytes text from count (output o0 o2))
  behind_part i0 i1 i2 i3 o0 o1 o2 from count c c' f start second sequence found s is can head b =
      let ws : List (List ℕ) = piece_list second in
      let on = read_on (left i1) (left i2) (left i3) c c' ws b.read s.onward b.on in
      let got : List ℕ = ((found.progress).bytes ++ (on.onward).bytes) ++ on.bytes in
      record {
        bytes = got;
        moved = moves_on (moves_on (found.progress).moved (on.onward).moved) on.moved;
        told = λ rest e.
            let r = b.on in
            let mid = moved_some r.between (left i3) r.bytes rest r.moved e in
            let led = (r.onward).told (r.bytes ++ rest) mid in
            let near = subst (LooksAt second start.first) (ap (λ (l : List (List ℕ)). ws ++ l) led.are)
            (looks_all second start.first (left_of c') (left i2) ((r.onward).bytes ++ (r.bytes ++ rest)) s.is (moved_some (left i2) r.between (r.onward).bytes (r.bytes ++ rest) (r.onward).moved mid)) in
            part_here got (got ++ rest) from count (output o0 o2) f (ws ++ b.read) (left_of on.then_is (on.bytes ++ rest)) (ws ++ b.read) start second sequence (head_of (whole_of f.piece) sequence start.header f.behind ++ all_bytes (ws ++ b.read))
            (here_read from (input i0 i1) (left i3) c f (ws ++ b.read) found on rest e) is can (looks_read second start.first b.read (left_of r.then_is (r.bytes ++ rest)) near) (inl (refl, b.few)) refl (prefix_on head b.grown);
      }
