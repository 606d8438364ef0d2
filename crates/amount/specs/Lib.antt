-- What the contracts of `amount` cite. A reviewer must believe the grammar, its scan, and what the answer of `amount_at` says of both.
pub mod Grammar
pub mod Scan
pub mod Proper
pub mod Read
-- What only names the finds of private functions: digits, a point.
pub mod Found
