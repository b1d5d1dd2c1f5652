-- The rows of a `Rows`. Assumes nothing: this is a definition.
use Rattle.std.specs.Prelude.{List}
use Rattle.model.specs.Table.{Row}
use Rattle.rows.specs.Words.{rows_in}
use Rattle.rows.specs.declared.Rows.{Rows}

-- the rows that its words hold
abbrev pub all_rows : Rows → List Row
all_rows rows = rows_in rows.pool.now rows.words.now
