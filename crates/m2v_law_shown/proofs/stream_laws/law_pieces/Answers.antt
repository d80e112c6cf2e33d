use Rattle.m2v_enc_stream.proofs.SliceUnits.{Spelled}
use Rattle.m2v_law_shown.proofs.StreamPieces.{pieces_are}
use Rattle.m2v_law_shown.proofs.Accounts.{pictures_counted, lengths_are, bits_are, taken_is, total_is, codes_are, first_is, places_are, sums_are}
use Rattle.m2v_law_shown.proofs.Wholes.{whole_is}
use Rattle.m2v_law_shown.proofs.stream_laws.law_pieces.Goals as goal

pub returns : goal.returns
returns c =
    let law : Spelled = record { calm = c.law_slice_calm.ensures; reads = c.law_slice_reads.ensures.stands; large = c.law_slice_reads.ensures.large } in
    record {
      pictures = λ s frames passes some few. pieces_are law s frames passes some few;
      whole = λ s frames. whole_is s frames;
      lengths = λ s frames passes some few. lengths_are law s frames passes some few;
      bits = λ s frames passes some few. bits_are law s frames passes some few;
      count = λ s frames. pictures_counted s frames;
      taken = λ s frames passes some few. taken_is law s frames passes some few;
      total = λ s frames passes some few. total_is law s frames passes some few;
      starts = λ s frames passes some few. codes_are law s frames passes some few;
      first = λ s frames passes some few. first_is law s frames passes some few;
      places = λ s frames passes some few. places_are law s frames passes some few;
      sums = λ s frames passes some few. sums_are law s frames passes some few;
    }
