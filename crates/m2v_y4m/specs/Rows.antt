-- Texts of which it is known what they say.
use Rattle.std.specs.Prelude.{ℕ, ◌≡◌, List, [], ◌∷◌, ◌++◌, replicate, Some, None, Ok, Err, codes, false}
use Rattle.m2v_y4m.specs.declared.answer.Y4mKind.TheVariants.{Magic, Line, Field, Size, Rate, Interlace, Chroma, Frame}
use Rattle.m2v_y4m.specs.declared.header.Y4mHeader.{Y4mHeader}
use Rattle.m2v_y4m.specs.Header.{opening, fault_at}
use Rattle.m2v_y4m.specs.Frames.{frames_from, behind_header}

-- six bytes 128, a frame of two lines of two
abbrev pub grey : List ℕ
grey = replicate 6 128

abbrev pub small : Y4mHeader
small = record { width = 2; height = 2; rate_code = 3; top = false }

abbrev pub grey_text : List ℕ
grey_text = codes "YUV4MPEG2 W2 H2 F25:1 Ip A0:0 C420mpeg2\nFRAME\n" ++ grey

-- a text of one grey frame, header lines with a fault of each kind, and frame lines that break a text
pub record KnownTexts : Type 0 where
  pub opens : opening grey_text ≡ Ok (record { header = small; length = 40 })
  pub comes : behind_header (record { header = small; length = 40 }) grey_text ≡ record { raw = grey; fault = None }
  pub bad_chroma : opening (codes "YUV4MPEG2 W2 H2 F25:1 Ip A0:0 C422\n") ≡ Err (fault_at Chroma 30)
  pub bad_magic : opening (codes "YUV4MPEG W2\n") ≡ Err (fault_at Magic 0)
  pub bad_magic_end : opening (codes "YUV4MPEG2") ≡ Err (fault_at Magic 0)
  pub bad_line : opening (codes "YUV4MPEG2 W2") ≡ Err (fault_at Line 0)
  pub bad_empty : opening (codes "YUV4MPEG2 W2  H2 F25:1\n") ≡ Err (fault_at Field 13)
  pub bad_no_width : opening (codes "YUV4MPEG2 H2 F25:1\n") ≡ Err (fault_at Field 18)
  pub bad_none : opening (codes "YUV4MPEG2\n") ≡ Err (fault_at Field 9)
  pub bad_space : opening (codes "YUV4MPEG2 \n") ≡ Err (fault_at Field 10)
  pub bad_again : opening (codes "YUV4MPEG2 W2 W0 H2 F25:1\n") ≡ Err (fault_at Field 13)
  pub bad_digits : opening (codes "YUV4MPEG2 W00002 H2 F25:1\n") ≡ Err (fault_at Field 10)
  pub bad_wide : opening (codes "YUV4MPEG2 W1921 H2 F25:1\n") ≡ Err (fault_at Size 10)
  pub bad_tall : opening (codes "YUV4MPEG2 W2 H0 F25:1\n") ≡ Err (fault_at Size 13)
  pub bad_colon : opening (codes "YUV4MPEG2 W2 H2 F25\n") ≡ Err (fault_at Field 16)
  pub bad_zero : opening (codes "YUV4MPEG2 W2 H2 F0:0\n") ≡ Err (fault_at Rate 16)
  pub bad_slow : opening (codes "YUV4MPEG2 W2 H2 F15:1\n") ≡ Err (fault_at Rate 16)
  pub bad_bottom : opening (codes "YUV4MPEG2 W2 H2 F25:1 Ib\n") ≡ Err (fault_at Interlace 22)
  pub frames_params : frames_from 6 40 (codes "FRAME Ip\n" ++ grey) ≡ record { raw = grey; fault = None }
  pub frames_lines : frames_from 6 40 (codes "FRAM\n" ++ grey) ≡ record { raw = []; fault = Some (fault_at Frame 40) }
  pub frames_end : frames_from 6 40 (codes "FRAME\n") ≡ record { raw = []; fault = Some (fault_at Frame 40) }
  pub frames_cut : frames_from 6 40 (codes "FRAME") ≡ record { raw = []; fault = Some (fault_at Line 40) }
  pub frames_short : frames_from 6 40 (codes "FRAME\n" ++ 1 ∷ []) ≡ record { raw = 1 ∷ []; fault = None }
  pub frames_second : frames_from 6 40 (codes "FRAME\n" ++ (grey ++ codes "x\n")) ≡ record { raw = grey; fault = Some (fault_at Frame 52) }
  pub frames_third : frames_from 6 40 (codes "FRAME\n" ++ (grey ++ codes "FRAME x\n")) ≡ record { raw = grey; fault = Some (fault_at Frame 52) }
  pub frames_no : frames_from 6 40 ([]) ≡ record { raw = []; fault = None }
