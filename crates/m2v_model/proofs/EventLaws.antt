-- What is told of events, and of those behind them.
use Rattle.std.proofs.Common.{◌≡◌, List, ◌∷◌, ◌++◌, [], refl, ap}
use Rattle.m2v_model.specs.declared.state.Sequence.{Sequence}
use Rattle.m2v_model.specs.Pictures.{Pictures, Events, sequence_header, group_header, coded_picture, pictures_in}
use Rattle.m2v_model.specs.Lawful.{sequences_in}

pub pictures_in-append : (es fs : Events) → pictures_in (es ++ fs) ≡ pictures_in es ++ pictures_in fs
pictures_in-append [] fs = refl
pictures_in-append (sequence_header s ∷ es) fs = pictures_in-append es fs
pictures_in-append (group_header g ∷ es) fs = pictures_in-append es fs
pictures_in-append (coded_picture p ∷ es) fs = ap (λ (l : Pictures). p ∷ l) (pictures_in-append es fs)

pub sequences_in-append : (es fs : Events) → sequences_in (es ++ fs) ≡ sequences_in es ++ sequences_in fs
sequences_in-append [] fs = refl
sequences_in-append (sequence_header s ∷ es) fs = ap (λ (l : List Sequence). s ∷ l) (sequences_in-append es fs)
sequences_in-append (group_header g ∷ es) fs = sequences_in-append es fs
sequences_in-append (coded_picture p ∷ es) fs = sequences_in-append es fs
