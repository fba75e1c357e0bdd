pub mod PlaceLemmas
pub mod PushLemmas
pub mod AngleLemmas
pub mod ExchangeLemmas
pub mod AfterGateLemmas
pub mod MatrixLemmas
