pub mod PlaysAt
