-- What the contracts of `ymd` cite. To be believed: the forms.
pub mod Forms
-- What a private function finds; nothing above rests on it.
pub mod Helpers
