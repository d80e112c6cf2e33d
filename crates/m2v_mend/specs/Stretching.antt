-- Mending under way: what was written, and what is made of what is left of an input.
use Rattle.std.specs.Prelude.{◌≡◌, ◌⊎◌, ℕ, ◌+◌, ◌-◌, ◌≤◌, nat_eq, if◌then◌else◌, Bool, false, true, List, [], ◌∷◌, ◌++◌, length, take, drop, Option, Some, None}
use Rattle.m2v_port.specs.Ends.{Change}
use Rattle.m2v_port.specs.Port.{Moves, Grows, GrowsByPrefix}
use Rattle.m2v_model.specs.Units.{Units, cut, joined}
use Rattle.m2v_model.specs.Pieces.{piece_of, Limit, too_long, too_large}
use Rattle.m2v_decode.specs.m2v_dec_piece.declared.answer.Piece.{Piece}
use Rattle.m2v_decode.specs.m2v_dec_piece.declared.answer.DecodeError.{DecodeError}
use Rattle.m2v_decode.specs.m2v_dec_piece.declared.answer.DecodeError.TheVariants as reading
use Rattle.m2v_decode.specs.m2v_dec_piece.Cutting.{Cutting, start_of, left_of, follows_of}
use Rattle.m2v_decode.specs.Decoding.{whole_of}
use Rattle.m2v_law_seam.specs.Spans.{units_in, stretches, steps}
use Rattle.m2v_law_seam.specs.Mending as mending
use Rattle.m2v_law_seam.specs.Mending.{strands_of, gaps_in}
use Rattle.m2v_law_seam.specs.Mends.{without_ends}
use Rattle.m2v_law_seam.specs.Reading.{IsPieceOfUnits}
use Rattle.m2v_law_seam.specs.Told as told
use Rattle.m2v_law_seam.specs.Told.{all_kept, some_kept, answer_to}
use Rattle.m2v_mend.specs.declared.answer.Answer.{Answer}
use Rattle.m2v_mend.specs.declared.answer.MendError.{MendError}
use Rattle.m2v_mend.specs.declared.answer.MendError.TheVariants as errors
use Rattle.m2v_mend.specs.declared.gap.Gap.{Gap}
use Rattle.m2v_mend.specs.declared.folding.Folding.{Folding}
use Rattle.m2v_mend.specs.Answers.{first_limit, limit_among, limit_from, mend_limit, answer_told, mended_bytes}
use Rattle.m2v_mend.specs.Listing.{lines_of, list_of}
use Rattle.m2v_mend.specs.Feeding.{bare, bare_pieces, stretches_at}
use Rattle.m2v_mend.specs.Gathering.{Tally, Gathering, with_pieces, before_stretch, stretch_ended, finished, nothing_told, behind_stretches}
use Rattle.m2v_mend.specs.Making.{IsFolded, IsNextPiece}
use Rattle.m2v_mend.specs.Members.{IsOneOfUnits}

-- ---- what is written

-- what output holds, and the list
pub record Held : Type 0 where
  pub text : Option (List ℕ)
  pub list : Option (List ℕ)

-- what two sinks hold, by what they tell
abbrev pub held_by : {K L : Type 0} → (K → Option (List ℕ)) → (L → Option (List ℕ)) → K → L → Held
held_by text list output other = record { text = text output; list = list other }

-- bytes were written, and the lines of gaps
pub record HaveGrown (old : Held) (bytes : List ℕ) (gaps : List mending.Gap) (new : Held) : Type 0 where
  pub text : Grows old.text bytes new.text
  pub list : Grows old.list (lines_of gaps) new.list

-- of the mended text and of the list a prefix was written
pub record ArePrefixes (text : List ℕ) (old new : Held) : Type 0 where
  pub mended : GrowsByPrefix old.text (mended_bytes text) new.text
  pub listed : GrowsByPrefix old.list (list_of text) new.list

-- an error of an endpoint comes where that failed
abbrev pub Fell : Type 0 → Type 0 → MendError → Type 0
Fell Input Output errors.Read = Input
Fell Input Output errors.Write = Output
Fell Input Output errors.TooLong = Unit {0}
Fell Input Output errors.PictureTooLarge = Unit {0}
Fell Input Output errors.Memory = Unit {0}

-- the same where only output can fail
abbrev pub FellOut : Type 0 → MendError → Type 0
FellOut Output errors.Read = ⊥
FellOut Output errors.Write = Output
FellOut Output errors.TooLong = ⊥
FellOut Output errors.PictureTooLarge = ⊥
FellOut Output errors.Memory = Unit {0}

-- the errors of a feed, as they are answered
abbrev pub IsAnswered : DecodeError → MendError → Type 0
IsAnswered reading.Read e = e ≡ errors.Read
IsAnswered reading.Write e = ⊥
IsAnswered (reading.Stream f) e = ⊥
IsAnswered reading.TooLong e = e ≡ errors.TooLong
IsAnswered reading.PictureTooLarge e = e ≡ errors.PictureTooLarge
IsAnswered reading.Memory e = e ≡ errors.Memory

-- all gaps but the last one, which another one may join
abbrev pub all_but_last : List Gap → List Gap
all_but_last gaps = take (length gaps - 1) gaps

-- pieces were handed out, and all gaps but the last one let go
pub record IsForgotten (old new : Folding) : Type 0 where
  pub gaps : new.mender.gaps.items ≡ drop (length old.mender.gaps.items - 1) old.mender.gaps.items
  pub none : new.mender.out.items ≡ []
  pub same : new ≡ record old { mender = record old.mender { out = new.mender.out; gaps = new.mender.gaps } }

-- bytes were written and gaps let go, and what was made of pieces is told by them
pub record IsFlushed (held held' : Held) (old new : Folding) : Type 0 where
  pub bytes : List ℕ
  pub gaps : List mending.Gap
  pub grown : HaveGrown held bytes gaps held'
  pub folded : (written : List ℕ) (listed : List mending.Gap) (g : Gathering) → IsFolded written listed g old → IsFolded (written ++ bytes) (listed ++ gaps) g new

-- These gaps stay as they are, the first of all: another gap joins or follows the last one, which isn't among them.
pub record AreSettled (settled all : List mending.Gap) : Type 0 where
  pub more : List mending.Gap
  pub is : all ≡ settled ++ more
  pub last : more ≡ [] → settled ≡ []

-- behind bytes and lines that were written stands a prefix of what the strands have more, and of the lines of settled gaps
pub record IsPartOfMade (m : mending.Mending) (written : List ℕ) (listed : List mending.Gap) (held held' : Held) : Type 0 where
  pub more : List ℕ
  pub strands : joined (strands_of m) ≡ written ++ more
  pub text : GrowsByPrefix held.text more held'.text
  pub gaps : List mending.Gap
  pub settled : AreSettled (listed ++ gaps) m.gaps
  pub list : GrowsByPrefix held.list (lines_of gaps) held'.list

abbrev pub IsPartOf : Gathering → List ℕ → List mending.Gap → Held → Held → Type 0
IsPartOf g written listed held held' = IsPartOfMade g.tally.made written listed held held'

-- with a piece that may have no byte
abbrev pub with_whole : Gathering → Piece → Gathering
with_whole g p = with_pieces g (piece_of (whole_of p))

-- a piece that has a byte is the next one
abbrev pub IsNextIf : Gathering → Piece → Type 0
IsNextIf g p = (p.length ≡ length (whole_of p)) × (1 ≤ p.length → IsNextPiece g p)

-- it was taken, and bytes and lines were written
pub record IsTaken (held held' : Held) (p : Piece) (old new : Folding) : Type 0 where
  pub bytes : List ℕ
  pub gaps : List mending.Gap
  pub grown : HaveGrown held bytes gaps held'
  pub folded : (written : List ℕ) (listed : List mending.Gap) (g : Gathering) → IsFolded written listed g old → IsNextIf g p → IsFolded (written ++ bytes) (listed ++ gaps) (with_whole g p) new

-- behind a stretch, whose pieces end before a byte
abbrev pub over_to : Gathering → ℕ → Gathering
over_to g place = before_stretch (stretch_ended (finished g)) place (g.before ++ units_in g.pieces)

-- a stretch has ended, and bytes and lines were written
pub record IsEnded (held held' : Held) (old new : Folding) : Type 0 where
  pub bytes : List ℕ
  pub gaps : List mending.Gap
  pub grown : HaveGrown held bytes gaps held'
  pub folded : (written : List ℕ) (listed : List mending.Gap) (g : Gathering) → IsFolded written listed g old
      → (place : ℕ) → g.place + length (joined g.pieces) ≤ place → IsFolded (written ++ bytes) (listed ++ gaps) (over_to g place) new

-- ---- what is left of an input

-- the units of an input so far, with those of the pieces that are left of the stretch
abbrev pub units_with : Gathering → List (List ℕ) → Units
units_with g raws = (g.before ++ units_in g.pieces) ++ units_in (bare_pieces raws)

-- Pieces as they are cut, the first from a byte on, behind others whose units end at a byte: without what stands before its first
-- unit and without its end code each begins where the one before it ends.
abbrev pub Lie : ℕ → ℕ → List (List ℕ) → Type 0
Lie start at [] = at ≤ start
Lie start at (w ∷ ws) = (start + length (cut 0 w).0 ≡ at) × Lie (start + length w) (at + length (bare w)) ws

-- pieces behind so many of a stretch
abbrev pub AreNext : ℕ → List (List ℕ) → Type 0
AreNext n [] = Unit {0}
AreNext n (p ∷ ps) = IsOneOfUnits p × (1 ≤ n → IsPieceOfUnits p) × AreNext 1 ps

-- within a stretch: what is made of a text is what is made of the pieces at hand, those that are left, and the text that follows
pub record OnWay (text : List ℕ) (g : Gathering) (start : ℕ) (raws : List (List ℕ)) (follows : List ℕ) : Type 0 where
  pub end : ℕ
  pub sum : end + length follows ≡ length text
  pub made : behind_stretches nothing_told (stretches text) ≡ behind_stretches (stretch_ended (finished (with_pieces g (bare_pieces raws)))) (stretches_at end (units_with g raws) follows)
  pub units : without_ends (cut 0 text).1 ≡ units_with g raws ++ without_ends (cut 0 follows).1
  pub lie : Lie start (g.place + length (joined g.pieces)) raws
  pub next : AreNext (length g.pieces) (bare_pieces raws)
  pub fuel : ℕ
  pub enough : length follows ≤ fuel
  pub limits : mend_limit text ≡ first_limit (limit_among start raws) (limit_from fuel end follows)

-- within a stretch of a text, of which this is left
pub record InStretch (c : Cutting) (x : Folding) (text written : List ℕ) (listed : List mending.Gap) (rest : List ℕ) : Type 0 where
  pub gathering : Gathering
  pub folded : IsFolded written listed gathering x
  pub way : OnWay text gathering c.place (left_of c rest) (follows_of c rest)
  pub start : start_of c rest ≡ c.place
  pub total : c.place + length (c.unread ++ rest) ≡ length text

-- before a stretch
pub record IsBefore (c : Cutting) (x : Folding) (text written : List ℕ) (listed : List mending.Gap) (rest : List ℕ) : Type 0 where
  pub tally : Tally
  pub before : Units
  pub folded : (place : ℕ) → c.place ≤ place → IsFolded written listed (before_stretch tally place before) x
  pub made : behind_stretches nothing_told (stretches text) ≡ behind_stretches tally (stretches_at c.place before (c.unread ++ rest))
  pub units : without_ends (cut 0 text).1 ≡ before ++ without_ends (cut 0 (c.unread ++ rest)).1
  pub over : stretch_ended tally ≡ tally
  pub total : c.place + length (c.unread ++ rest) ≡ length text
  pub fuel : ℕ
  pub enough : length (c.unread ++ rest) ≤ fuel
  pub limits : mend_limit text ≡ limit_from fuel c.place (c.unread ++ rest)

-- all pieces of a stretch were read; where it has none, nothing is left
pub record IsRead (some : Bool) (c : Cutting) (x : Folding) (text written : List ℕ) (listed : List mending.Gap) (rest : List ℕ) : Type 0 where
  pub in_stretch : InStretch c x text written listed rest
  pub ended : c.ended ≡ true
  pub none : some ≡ false → c.unread ++ rest ≡ []

-- a stretch was read
pub record IsBehind (some : Bool) (c : Cutting) (x : Folding) (text written : List ℕ) (listed : List mending.Gap) (rest : List ℕ) : Type 0 where
  pub before : IsBefore c x text written listed rest
  pub none : some ≡ false → c.unread ++ rest ≡ []

-- what holds of a text, of what was written and listed of it, and of what is left of it
abbrev pub Standing : Type 1
Standing = List ℕ → List ℕ → List mending.Gap → List ℕ → Type 0

-- bytes were read, and bytes and lines written; where the source tells its bytes, this holds of the text, of what was written, and
-- of what is left
pub record Comes (Holds : Standing) (first left : Option (List ℕ)) (start held : Held) : Type 0 where
  pub bytes : List ℕ
  pub moved : Moves first bytes left
  pub written : List ℕ
  pub listed : List mending.Gap
  pub grown : HaveGrown start written listed held
  pub told : (rest : List ℕ) → left ≡ Some rest → Holds (bytes ++ rest) written listed rest

-- what both sinks held, and what they hold
abbrev pub held_before : Change → Change → Held
held_before output list = record { text = output.old; list = list.old }

abbrev pub held_after : Change → Change → Held
held_after output list = record { text = output.new; list = list.new }

-- where this held of a text before, that holds then
abbrev pub Leads : Standing → Standing → Change → Change → Change → Type 0
Leads Before After input output list =
    (first : Option (List ℕ)) (start : Held) → Comes Before first input.old start (held_before output list) → Comes After first input.new start (held_after output list)

-- a prefix of the mended text was written, and one of its list
pub record IsCut (first left : Option (List ℕ)) (start held : Held) : Type 0 where
  pub bytes : List ℕ
  pub moved : Moves first bytes left
  pub told : (rest : List ℕ) → left ≡ Some rest → ArePrefixes (bytes ++ rest) start held

-- the input was read to its end: it passes no limit, this is the answer, and the mended text and its list were written
pub record IsAll (a : Answer) (first left : Option (List ℕ)) (start held : Held) : Type 0 where
  pub bytes : List ℕ
  pub moved : Moves first bytes left
  pub told : (rest : List ℕ) → left ≡ Some rest
      → (answer_told a ≡ answer_to steps (bytes ++ rest)) × HaveGrown start (mended_bytes (bytes ++ rest)) (gaps_in steps (bytes ++ rest)) held × (mend_limit (bytes ++ rest) ≡ None)

-- the answer by the numbers that were counted, where a strand has a byte
abbrev pub kept_told : Folding → told.Answer
kept_told x =
    if nat_eq x.mender.left 0 then all_kept x.mender.groups x.pictures (x.mender.bytes + 4)
    else some_kept x.mender.groups x.groups (x.pictures - x.mender.left) x.pictures (x.mender.bytes + 4)

-- bytes were read, and the text that they begin passes this limit
pub record PastLimit (l : Limit) (first left : Option (List ℕ)) : Type 0 where
  pub bytes : List ℕ
  pub moved : Moves first bytes left
  pub told : (rest : List ℕ) → left ≡ Some rest → mend_limit (bytes ++ rest) ≡ Some l

-- where a limit is answered the text passes it
abbrev pub IsPast : MendError → Option (List ℕ) → Option (List ℕ) → Type 0
IsPast errors.Read first left = Unit {0}
IsPast errors.Write first left = Unit {0}
IsPast errors.TooLong first left = PastLimit too_long first left
IsPast errors.PictureTooLarge first left = PastLimit too_large first left
IsPast errors.Memory first left = Unit {0}

-- Why it ends before the end of the input, where this held of a text before: an endpoint failed, a limit is passed or memory ran
-- out, with a prefix of the mended text on output, and one of its list.
pub record Stops (Before : Standing) (input output list : Change) (e : MendError) : Type 0 where
  pub fell : Fell input.Failed (output.Failed ⊎ list.Failed) e
  pub cut : (first : Option (List ℕ)) (start : Held) → Comes Before first input.old start (held_before output list) → IsCut first input.new start (held_after output list)
  pub past : (first : Option (List ℕ)) (start : Held) → Comes Before first input.old start (held_before output list) → IsPast e first input.new
