-- A piece without what stands before its first unit, and without a sequence end code, by how many bytes these have.
use Rattle.std.proofs.Common.{◌≡◌, ◌≢◌, ℕ, ◌+◌, ◌-◌, ◌≤◌, ◌<◌, List, [], ◌∷◌, ◌++◌, length, take, drop, get_or, replicate, inl, inr, refl, sym, ap, subst, ◌∙◌, append-nil, arith}
use Rattle.std.specs.Prelude.{vec_len, Result, Ok, Err, IfOk}
use Rattle.std.proofs.lemmas.Bool.{cases_lt}
use Rattle.std.proofs.lemmas.List.{length-append, length-replicate, drop-append-le, drop_all, nil_from_length}
use Rattle.std.proofs.Math.Seq.{take-append_seam, get_or-append_right}
use Rattle.m2v_model.specs.Units.{Units, cut, joined, AreUnits}
use Rattle.m2v_model.proofs.CutLaws.{cut_cuts}
use Rattle.m2v_decode.specs.m2v_dec_piece.declared.answer.Piece.{Piece}
use Rattle.m2v_decode.specs.m2v_dec_piece.Sound.{IsSoundPiece}
use Rattle.m2v_decode.specs.Decoding.{whole_of}
use Rattle.m2v_law_group.specs.Groups.{to_end}
use Rattle.m2v_law_group.proofs.Texts.{code_bytes}
use Rattle.m2v_mend.specs.declared.feed.Extent.{Extent}
use Rattle.m2v_mend.specs.Feeding.{from_end, bare, IsPart, IsBare, IsExtent}
use Rattle.m2v_mend.proofs.EditLaws.{zeros_get}
use Rattle.m2v_mend.proofs.Stretched.{parted_bytes}

module _ (p : Piece) (sound : IsSoundPiece p) (e : Extent) (is : IsExtent (whole_of p) e) where
  abbrev w : List ℕ
  w = whole_of p

  abbrev j : List ℕ
  j = (cut 0 w).0

  abbrev us : Units
  us = (cut 0 w).1

  all : length w ≡ p.length
  all =
      let zeros = p.length - vec_len p.bytes in
      let n = length-append p.bytes.items (replicate zeros 0) in
      let m = length-replicate {A = ℕ} zeros 0 in
      omega (arith, n, m, sound.kept)

  front : length w ≡ length j + e.units
  front = let n = ap length (cut_cuts w).whole ∙ length-append j (joined us) in omega (arith, n, is.units)

  inside : e.own + length (joined (from_end us)) ≡ e.units
  inside = let n = ap length (parted_bytes us) ∙ length-append (joined (to_end us)) (joined (from_end us)) in omega (arith, n, is.units, is.own)

  pub units_within : e.units ≤ p.length
  units_within = omega (arith, all, front)

  pub own_within : (p.length - e.units) + e.own ≤ p.length
  own_within = omega (arith, all, front, inside)

  front_is : p.length - e.units ≡ length j
  front_is = omega (arith, all, front)

  -- all of it
  pub all_bare : e.own ≡ p.length → IsBare p p.place w
  all_bare own =
      let none = nil_from_length j (omega (arith, own, all, front, inside)) in
      let over = nil_from_length (joined (from_end us)) (omega (arith, own, all, front, inside)) in
      record {
        whole = (cut_cuts w).whole ∙ ap (λ (x : List ℕ). x ++ joined us) none ∙ parted_bytes us ∙ ap (λ (x : List ℕ). joined (to_end us) ++ x) over ∙ append-nil (joined (to_end us));
        at = omega (arith, ap length none);
        length_is = sym own ∙ is.own;
        sound = λ some. sound;
      }

  -- no unit
  pub none_bare : (q : Piece) → e.units ≡ 0 → q.bytes.items ≡ [] → q.length ≡ 0 → q.place ≡ p.place + p.length → IsBare q p.place w
  none_bare q none bytes count place =
      let nothing = nil_from_length (bare w) (omega (arith, inside, none, is.own)) in
      let zeros : q.length - vec_len q.bytes ≡ 0 = omega (arith, count) in
      record {
        whole = ap (λ (x : List ℕ). x ++ replicate (q.length - vec_len q.bytes) 0) bytes ∙ ap (λ (n : ℕ). replicate n 0) zeros ∙ sym nothing;
        at = omega (arith, place, all, front, none);
        length_is = omega (arith, count, ap length nothing);
        sound = λ some. absurd (omega (arith, some, count));
      }

  -- a part of it
  part_bytes : take e.own (drop (p.length - e.units) w) ≡ bare w
  part_bytes =
      let behind : drop (length j) w ≡ joined us = ap (drop (length j)) (cut_cuts w).whole ∙ drop-append-le (length j) j (joined us) (omega arith) ∙ ap (λ (x : List ℕ). x ++ joined us) (drop_all (length j) j (omega arith)) in
      ap (λ (n : ℕ). take e.own (drop n w)) front_is
      ∙ ap (take e.own) (behind ∙ parted_bytes us)
      ∙ ap (λ (n : ℕ). take n (joined (to_end us) ++ joined (from_end us))) is.own
      ∙ take-append_seam (joined (to_end us)) (joined (from_end us))

  pub part_bare : (q : Piece) → IsPart q (p.place + (p.length - e.units)) (take e.own (drop (p.length - e.units) w)) → IsBare q p.place w
  part_bare q part = record {
    whole = part.whole ∙ part_bytes;
    at = part.at ∙ ap (λ (n : ℕ). p.place + n) front_is;
    length_is = part.length_is ∙ ap length part_bytes;
    sound = part.sound;
  }

  pub ok_bare : (E : Type 0) (r : Result Piece E) → IfOk r (λ q. IsPart q (p.place + (p.length - e.units)) (take e.own (drop (p.length - e.units) w))) → IfOk r (λ q. IsBare q p.place w)
  ok_bare E (Ok q) part = part_bare q part
  ok_bare E (Err x) part = part

  -- the first unit begins in the bytes that are kept
  begins_kept : (vs : Units) → us ≡ vs → vs ≢ [] → length j < vec_len p.bytes
  begins_kept [] same some = absurd (some refl)
  begins_kept (v ∷ vs) same some =
      let code = code_bytes v (subst AreUnits same (cut_cuts w).are_units).1 in
      let bytes : w ≡ j ++ (0 ∷ 0 ∷ 1 ∷ code.value ∷ (code.rest ++ joined vs)) = (cut_cuts w).whole ∙ ap (λ (l : Units). j ++ joined l) same ∙ ap (λ (l : List ℕ). j ++ (l ++ joined vs)) code.is in
      let i = length j + 2 in
      let two : i - length j ≡ 2 = omega arith in
      let one : get_or w i 0 ≡ 1 = ap (λ (l : List ℕ). get_or l i 0) bytes ∙ get_or-append_right j _ i 0 (omega arith) ∙ ap (λ (n : ℕ). get_or (0 ∷ 0 ∷ 1 ∷ code.value ∷ (code.rest ++ joined vs)) n 0) two in
      elim (cases_lt (length j) (vec_len p.bytes)) [
        | inl lt ↦ lt
        | inr le ↦
            let zeros = p.length - vec_len p.bytes in
            let long : length p.bytes.items ≤ i = omega (arith, le) in
            let zero : get_or w i 0 ≡ 0 = get_or-append_right p.bytes.items (replicate zeros 0) i 0 long ∙ zeros_get zeros (i - length p.bytes.items) in
            absurd (omega (arith, one, zero))
      ]

  pub first_kept : e.units ≢ 0 → p.length - e.units < vec_len p.bytes
  first_kept some =
      let there : us ≢ [] = λ none. some (is.units ∙ ap (λ (l : Units). length (joined l)) none) in
      let lt = begins_kept us refl there in
      omega (arith, lt, front_is)
