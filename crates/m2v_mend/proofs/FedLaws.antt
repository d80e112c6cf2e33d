-- What a cutter hands out, without what stands before the first unit and without an end code.
use Rattle.std.proofs.Common.{◌≡◌, ℕ, ◌+◌, true, List, ◌++◌, Option, Some, None, sym, ap, subst, ◌∙◌, arith}
use Rattle.std.specs.Prelude.{IfSome}
use Rattle.m2v_model.specs.Units.{Units, joined, AreUnits}
use Rattle.m2v_model.proofs.CutLaws.{cut_cuts, cut_units, are_before}
use Rattle.m2v_law_group.specs.Groups.{to_end}
use Rattle.m2v_law_group.proofs.Lists.{ended_units}
use Rattle.m2v_law_seam.specs.Spans.{units_of}
use Rattle.m2v_law_seam.specs.Strands.{has_end}
use Rattle.m2v_law_seam.proofs.Fronts.{none_end}
use Rattle.m2v_decode.specs.m2v_dec_piece.declared.answer.Piece.{Piece}
use Rattle.m2v_decode.specs.m2v_dec_piece.Cutting.{Cutting, start_of}
use Rattle.m2v_decode.specs.m2v_dec_piece.Sound.{IsSoundPiece, GoesOnward}
use Rattle.m2v_decode.specs.m2v_dec_piece.Stepping.{Handed}
use Rattle.m2v_decode.specs.Decoding.{whole_of}
use Rattle.m2v_dec_piece.proofs.WholeLaws.{whole_is}
use Rattle.m2v_mend.specs.declared.info.Counted.{Counted}
use Rattle.m2v_mend.specs.Telling.{IsCounted}
use Rattle.m2v_mend.specs.Feeding.{from_end, IsBare, AreBare, IsOwn, KeepsZeros, KeepZeros, Fed, IsOnward}
use Rattle.m2v_mend.proofs.FrontLaws.{trimmed_room}
use Rattle.m2v_mend.proofs.Stretched.{units_parted}

fed_none : (old new : Cutting) (left left' : Option (List ℕ)) → Handed old left new left' None → Fed old left new left' None
fed_none old new left left' h = record { bytes = h.bytes; moved = h.moved; next = h.next; behind = h.behind; place = h.place; zeros = λ rest e. tt }

fed_some : (old new : Cutting) (left left' : Option (List ℕ)) (p q : Piece) → Handed old left new left' (Some p) → IsBare q p.place (whole_of p) → KeepsZeros p q → Fed old left new left' (Some q)
fed_some old new left left' p q h bare keeps = record {
  bytes = h.bytes;
  moved = h.moved;
  next = λ rest e.
      let n = h.next rest e in
      let is = n.2 in
      let own : IsBare q _ n.0 = subst (λ (at : ℕ). IsBare q at n.0) is.at (subst (IsBare q p.place) (whole_is p _ n.0 is) bare) in
      (n.0, n.1, own, n.3 ∙ ap (λ (at : ℕ). at + p.length) is.at ∙ ap (λ (k : ℕ). start_of old (h.bytes ++ rest) + k) is.length, is.fits);
  behind = h.behind;
  place = h.place;
  zeros = λ rest e. let is = (h.next rest e).2 in keeps (trimmed_room p _ is.bytes is.length);
}

pub fed_as : (old new : Cutting) (left left' : Option (List ℕ)) (o q : Option Piece) → Handed old left new left' o → AreBare o q → KeepZeros o q → Fed old left new left' q
fed_as old new left left' None None h bare keeps = fed_none old new left left' h
fed_as old new left left' None (Some q) h bare keeps = absurd bare
fed_as old new left left' (Some p) None h bare keeps = absurd bare
fed_as old new left left' (Some p) (Some q) h bare keeps = fed_some old new left left' p q h bare keeps

-- ---- whatever the source tells

-- its units are those before the end code
units_bare : (q : Piece) (place : ℕ) (whole : List ℕ) → IsBare q place whole → units_of (whole_of q) ≡ to_end (units_of whole)
units_bare q place whole is =
    let us = units_of whole in
    let are = are_before (to_end us) (from_end us) (subst AreUnits (units_parted us) (cut_cuts whole).are_units) in
    ap units_of is.whole ∙ cut_units (to_end us) are

pub counted_bare : (q : Piece) (place : ℕ) (whole : List ℕ) (c : Counted) → IsBare q place whole → IsCounted (to_end (units_of whole)) c → IsCounted (units_of (whole_of q)) c
counted_bare q place whole c is = subst (λ (us : Units). IsCounted us c) (sym (units_bare q place whole is))

bare_own : (q : Piece) (place : ℕ) (whole : List ℕ) → IsBare q place whole → IsOwn q
bare_own q place whole is =
    let us = units_of whole in
    let same = units_bare q place whole is in
    record { units = is.whole ∙ sym (ap joined same); no_end = ap has_end same ∙ none_end (to_end us) (ended_units us).3; sound = is.sound }

pub own_as : (o q : Option Piece) → AreBare o q → IfSome q IsOwn
own_as None None bare = tt
own_as None (Some q) bare = absurd bare
own_as (Some p) None bare = absurd bare
own_as (Some p) (Some q) bare = bare_own q p.place (whole_of p) bare

-- it ends behind the place where the one before it ended
pub onward_as : (o q : Option Piece) (old new : Cutting) → AreBare o q → IfSome o IsSoundPiece → GoesOnward o old.place new.place → IfSome o (λ p. new.begun ≡ true) → IsOnward q old new
onward_as None None old new bare sound onward begun = onward
onward_as None (Some q) old new bare sound onward begun = absurd bare
onward_as (Some p) None old new bare sound onward begun = absurd bare
onward_as (Some p) (Some q) old new bare sound onward begun = (omega (arith, sound.some, onward.0, onward.1), omega (arith, sound.end, onward.1), begun)
