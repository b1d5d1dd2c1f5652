-- What a run of the program reads and writes, as a log of crates/streams. Assumes nothing: these are definitions.
use Rattle.std.specs.Prelude.{ℕ, ◌<◌, ◌≡◌, length, Result, Ok, Err}
use Rattle.std.specs.declared.io.Error.{Error}
use mathlib.Core.List.{List, [], ◌∷◌, ◌++◌, flatten}
use Rattle.line.specs.Held.{held_after}
use Rattle.line.specs.Feeding.{Holds}
use Rattle.line.specs.declared.Line.{Line}
use Rattle.streams.specs.Log.{read_in, written_in, failures_in, Logged}
use Rattle.streams.specs.Parts.{OfBytes, one_read, writes}
use Rattle.streams.specs.declared.Entry.{Entry}
use Rattle.streams.specs.declared.Entry.TheVariants.{EndOfInput, ReadFailed, WriteFailed}
use Rattle.treenum.specs.Treenum.{printed_for, put_after}
use Rattle.treenum.specs.declared.Failure.{Failure}
use Rattle.treenum.specs.declared.Failure.TheVariants.{Read, Write, TooManyReads}

-- ---- the log of a run

-- The input comes in these parts, each by one read, after bytes that are held: each part is read and then, before the next read, the answers to the
-- lines that it ends are written. So who waits for an answer before sending more gets it
unfoldable pub log_of : (held : List ℕ) (parts : List (List ℕ)) → List Entry
log_of held [] = []
log_of held (p ∷ ps) = (one_read p ++ writes (put_after held p)) ++ log_of (held_after held p) ps

-- the parts are of bytes, and each has one at least
unfoldable pub Parts : List (List ℕ) → Type 0
Parts [] = Unit {0}
Parts (p ∷ ps) = ((0 < length p) × OfBytes p) × Parts ps

-- the end of the input is found, and what is printed for the bytes held, a last line without byte 10, is written
abbrev pub at_end : (held : List ℕ) → List Entry
at_end held = EndOfInput ∷ writes (printed_for held)

-- A write failed, and nothing came after it: that of answers to the lines which the first bytes of a part end; or that at the end of the input
pub data FailsToWrite (held : List ℕ) (tail : List Entry) : Type 0 where
  after_read : (fed rest : List ℕ) → OfBytes (fed ++ rest) → tail ≡ one_read (fed ++ rest) ++ (writes (put_after held fed) ++ WriteFailed ∷ []) → FailsToWrite held tail
  has_ended : tail ≡ at_end held ++ WriteFailed ∷ [] → FailsToWrite held tail

-- how the log of a run ends, after so many reads and with bytes held; only after 2^64 - 1 reads does a run give up
abbrev pub Ends : (reads : ℕ) (held : List ℕ) → Result Unit Failure → (tail : List Entry) → Type 0
Ends reads held (Ok done) tail = tail ≡ at_end held
Ends reads held (Err (Read reason)) tail = tail ≡ ReadFailed ∷ []
Ends reads held (Err (Write reason)) tail = FailsToWrite held tail
Ends reads held (Err TooManyReads) tail = (reads ≡ 18446744073709551615) × (tail ≡ [])

-- the log of a run that ends so
pub record IsRun (ending : Result Unit Failure) (log : List Entry) : Type 0 where
  pub parts : List (List ℕ)
  pub of_parts : Parts parts
  pub tail : List Entry
  pub whole : log ≡ log_of [] parts ++ tail
  pub ends : Ends (length parts) (held_after [] (flatten parts)) ending tail

-- ---- what the functions promise, of the digests before and after

-- a write failed, of the answers to the lines which the first of these bytes end
pub record Breaks (held bytes : List ℕ) (before after : ℕ) : Type 0 where
  pub fed : List ℕ
  pub rest : List ℕ
  pub split : bytes ≡ fed ++ rest
  pub logged : Logged before after (writes (put_after held fed) ++ WriteFailed ∷ [])

-- the bytes of a read are fed: what is then held, and the answers to the lines that they end are written; or a write failed
abbrev pub Feeds : (held bytes : List ℕ) → Result Unit Error → (line : Line) (before after : ℕ) → Type 0
Feeds held bytes (Ok done) line before after = Holds (held_after held bytes) line × Logged before after (writes (put_after held bytes))
Feeds held bytes (Err reason) line before after = Breaks held bytes before after

-- one read, and what is done before the next
pub record TakesPart (held : List ℕ) (line : Line) (before after : ℕ) : Type 0 where
  pub bytes : List ℕ
  pub of_part : (0 < length bytes) × OfBytes bytes
  pub holds : Holds (held_after held bytes) line
  pub logged : Logged before after (one_read bytes ++ writes (put_after held bytes))

-- the run ends
pub record Stops (reads : ℕ) (held : List ℕ) (ending : Result Unit Failure) (before after : ℕ) : Type 0 where
  pub tail : List Entry
  pub ends : Ends reads held ending tail
  pub logged : Logged before after tail

-- the whole run
pub record Ran (ending : Result Unit Failure) (before after : ℕ) : Type 0 where
  pub log : List Entry
  pub is_run : IsRun ending log
  pub logged : Logged before after log

-- ---- what follows

-- A run that is done has read its input to the end, no read or write failed, and what it wrote is what is printed for the input (the theorem
-- `answered`)
pub record Answered (log : List Entry) : Type 0 where
  pub of_bytes : OfBytes (read_in log)
  -- what came before the read that found the end, and what was written after it
  pub earlier : List Entry
  pub last : List ℕ
  pub to_end : log ≡ earlier ++ EndOfInput ∷ writes last
  pub none_failed : failures_in log ≡ []
  pub written : written_in log ≡ printed_for (read_in log)

-- However a run ends, it handed to writes what is printed for what it read, or a beginning of that, and nothing else (the theorem `nothing_else`)
pub record NothingElse (log : List Entry) : Type 0 where
  pub rest : List ℕ
  pub begins : printed_for (read_in log) ≡ written_in log ++ rest
