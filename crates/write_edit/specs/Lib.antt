pub mod EditAt
