-- What a program does with standard input and standard output, in order: its log, which is carried as its digest. Assumes nothing: these are
-- definitions.
use Rattle.std.specs.Prelude.{ℕ, ◌+◌, ◌*◌, ◌%◌, ◌≡◌, fold}
use mathlib.Core.List.{List, [], ◌∷◌, flat_map}
use Rattle.streams.specs.declared.Entry.{Entry}
use Rattle.streams.specs.declared.Entry.TheVariants.{ByteRead, ByteWritten, ReadReturned, EndOfInput, ReadFailed, WriteFailed}

-- what an entry adds to the bytes that were read, to those that were handed to writes, and to the failures
abbrev pub adds : Entry → List ℕ × List ℕ × List Entry
adds (ByteRead b) = (b ∷ [], [], [])
adds (ByteWritten b) = ([], b ∷ [], [])
adds ReadReturned = ([], [], [])
adds EndOfInput = ([], [], [])
adds ReadFailed = ([], [], ReadFailed ∷ [])
adds WriteFailed = ([], [], WriteFailed ∷ [])

-- of a log: the bytes that were read, the bytes that were handed to writes, the failures
abbrev pub read_in : List Entry → List ℕ
read_in log = flat_map (λ e. (adds e).0) log

abbrev pub written_in : List Entry → List ℕ
written_in log = flat_map (λ e. (adds e).1) log

abbrev pub failures_in : List Entry → List Entry
failures_in log = flat_map (λ e. (adds e).2) log

-- a number for each entry: while bytes are below 256, no two entries have the same
abbrev pub entry_number : Entry → ℕ
entry_number (ByteRead b) = b
entry_number (ByteWritten b) = 256 + b
entry_number ReadReturned = 512
entry_number EndOfInput = 513
entry_number ReadFailed = 514
entry_number WriteFailed = 515

-- the digest, a checksum of 32 bits, with one entry more, by its number
abbrev pub with_number : (digest number : ℕ) → ℕ
with_number digest number = (digest % 4294967296 * 16777619 + number + 1) % 4294967296

abbrev pub with_entry : (digest : ℕ) → Entry → ℕ
with_entry digest e = with_number digest (entry_number e)

-- the digest with more entries
unfoldable pub digest_after : (digest : ℕ) → List Entry → ℕ
digest_after digest es = fold with_entry digest es

-- `after` is the digest `before` with these entries. Other logs have the same digest, so this alone does not say that these are the entries: a
-- proof that uses of digests only that no entries leave them as they are (`logged_none`) and that entries follow one another (`logged_both`), and
-- does not unfold `digest_after`, would be one for any other digest too, the log itself among them
abbrev pub Logged : (before after : ℕ) → List Entry → Type 0
Logged before after entries = after ≡ digest_after before entries
