-- What the contracts of `refusal` cite, and the rule by which an order of tests gives one refusal.
pub mod Numbers
pub mod Order
pub mod Told
