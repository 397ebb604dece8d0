-- The meaning of a window of a slice.
use Rattle.std.specs.Prelude.{ℕ, ◌+◌, ◌*◌, List, take, drop, slice_range}
use Rattle.std.specs.Borrow.{Bor, RattleType}
use Rattle.std.specs.Mem.{type_size}
use Rattle.winnow_stream_window.specs.declared.window.Window.{Window}

-- the elements from the start of the window to its end
unfoldable pub contents_of : {T : Type 0} → Window T → List T
contents_of w = slice_range w.whole.now w.start w.end

-- the place in the whole slice at which the window starts
abbrev pub start_of : {T : Type 0} → Window T → ℕ
start_of w = w.start

-- the address of its first element, if each element takes `size` bytes
unfoldable pub address_of : {T : Type 0} → ℕ → Window T → ℕ × ℕ
address_of size w = (w.whole.ref_ptr.0, w.start * size + w.whole.ref_ptr.1)

-- the elements of the window as a slice
abbrev pub slice_of : (R : RattleType) → Window R.Denot → Bor (List R.Denot)
slice_of R w = record { ref_ptr = address_of (type_size R) w; now = contents_of w }

-- the slice after its first `count` elements, and the slice of those elements
abbrev pub slice_behind : (R : RattleType) → ℕ → Bor (List R.Denot) → Bor (List R.Denot)
slice_behind R count s = record { ref_ptr = (s.ref_ptr.0, count * type_size R + s.ref_ptr.1); now = drop count s.now }

abbrev pub slice_before : {T : Type 0} → ℕ → Bor (List T) → Bor (List T)
slice_before count s = record { ref_ptr = s.ref_ptr; now = take count s.now }
