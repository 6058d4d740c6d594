-- A reader of lines, and how far it has come.
-- Beside the promise.
use Rattle.std.specs.Prelude.{◌≡◌, ℕ, List, ◌++◌, length}
use Rattle.std.specs.Str.Lines.{lines}
use Rattle.cpu12_asm.specs.Bytes.{byte_at}
use Rattle.srecord.specs.{declared.reader.Reader.Reader, Texts.Give, Texts.Given}

-- the reader has what is given
pub record Has (reader : Reader) (g : Given) : Type 0 where
  pub bytes : (q : ℕ) → byte_at reader.bytes q ≡ g.bytes q
  pub records : reader.records ≡ g.records
  pub start : reader.start ≡ g.start

-- the reader has read so many lines of the text, and this is behind them
pub record HasRead (text : List ℕ) (count : ℕ) (rest : List ℕ) (reader : Reader) : Type 0 where
  pub before : List (List ℕ)
  pub given : Given
  pub lines_are : lines text ≡ before ++ lines rest
  pub number : length before ≡ count
  pub give : Give before given
  pub has : Has reader given
