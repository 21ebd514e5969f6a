-- What the text that is gathered keeps to. The size is that of the constant `gather::SIZE`. No public contract cites this.
use Rattle.std.specs.Prelude.{ℕ, ◌≤◌}

abbrev pub page_bytes : ℕ
page_bytes = 65536

-- a place of a page, or its end
abbrev pub OnPage : ℕ → Type 0
OnPage n = n ≤ page_bytes
