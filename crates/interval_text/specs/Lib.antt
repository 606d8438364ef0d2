-- What the contracts of `interval_text` cite. A reviewer must believe the text of an interval.
pub mod Text
-- What only names what a private function puts.
pub mod Found
