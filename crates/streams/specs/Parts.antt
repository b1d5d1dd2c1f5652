-- What a read and a write add to the log. Assumes nothing: these are definitions.
use Rattle.std.specs.Prelude.{ℕ, ◌<◌, ◌≤◌, List, [], ◌∷◌, ◌++◌, map, length, take, get_or, Option, Some, None, Result, Ok, Err}
use Rattle.std.specs.declared.io.Error.{Error}
use Rattle.streams.specs.Log.{Logged}
use Rattle.streams.specs.declared.Entry.{Entry}
use Rattle.streams.specs.declared.Entry.TheVariants.{ByteRead, ByteWritten, ReadReturned, EndOfInput, ReadFailed, WriteFailed}

-- every number of the list is a byte
abbrev pub OfBytes : List ℕ → Type 0
OfBytes bytes = (i : ℕ) → get_or bytes i 0 < 256

-- the entries of a read that gives these bytes
abbrev pub one_read : (bytes : List ℕ) → List Entry
one_read bytes = map ByteRead bytes ++ ReadReturned ∷ []

-- the entries of bytes that are written
abbrev pub writes : (bytes : List ℕ) → List Entry
writes bytes = map ByteWritten bytes

-- a read into a list: the bytes with which the list then begins, one at least; or the end of the input; or a failure
abbrev pub Took : (before after : ℕ) (list : List ℕ) → Result (Option ℕ) Error → Type 0
Took before after list (Ok (Some n)) = (0 < n) × (n ≤ length list) × OfBytes (take n list) × Logged before after (one_read (take n list))
Took before after list (Ok None) = Logged before after (EndOfInput ∷ [])
Took before after list (Err reason) = Logged before after (ReadFailed ∷ [])

-- what comes to the log after the bytes that were handed to a write: nothing where all were taken
abbrev pub after_write : Result Unit Error → List Entry
after_write (Ok all) = []
after_write (Err reason) = WriteFailed ∷ []

-- a write of bytes
abbrev pub Wrote : (before after : ℕ) (bytes : List ℕ) → Result Unit Error → Type 0
Wrote before after bytes written = Logged before after (writes bytes ++ after_write written)
