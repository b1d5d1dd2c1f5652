-- A stack of open nodes, and of closed ones that wait. Assumes nothing: these are definitions.
use Rattle.std.specs.Prelude.{ℕ, ◌+◌, ◌-◌, List, get_or, set, take, drop}
use Rattle.rank.specs.declared.Stack.{Stack}

-- the node opened last: its symbol, how many states were waiting when it was opened, and the states and the values of its children
abbrev pub top_symbol : Stack → ℕ
top_symbol k = get_or k.opens.now (k.depth - 1) 0

abbrev pub top_begin : Stack → ℕ
top_begin k = get_or k.begins.now (k.depth - 1) 0

abbrev pub top_states : Stack → List ℕ
top_states k = take (k.waits - top_begin k) (drop (top_begin k) k.waiting.now)

abbrev pub top_values : Stack → List ℕ
top_values k = take (k.waits - top_begin k) (drop (top_begin k) k.values.now)

-- one node more is open, with symbol s
abbrev pub with_open : Stack → (s : ℕ) → Stack
with_open k s = record k {
  opens = record k.opens { now = set k.opens.now k.depth s };
  begins = record k.begins { now = set k.begins.now k.depth k.waits };
  depth = k.depth + 1;
}

-- the node opened last is closed: its state q and its value v stand where its children's began
abbrev pub with_closed : Stack → (q v : ℕ) → Stack
with_closed k q v = record k {
  depth = k.depth - 1;
  waiting = record k.waiting { now = set k.waiting.now (top_begin k) q };
  values = record k.values { now = set k.values.now (top_begin k) v };
  waits = top_begin k + 1;
}
